use Rattle.std.proofs.Common.{◌≡◌, List, sym, ap, ◌∙◌, subst}
use Rattle.std.specs.Map.{keys_of}
use Rattle.std.specs.declared.ops.Bound.{Bound}
use Rattle.std.specs.Range.Bound.{bound_map}
use Rattle.rs_path.specs.Paths.{Path}
use Rattle.rs_cache.specs.declared.pending.Pending.{Pending}
use Rattle.rs_cache.specs.States.{State}
use Rattle.rs_cache.proofs.ScanLemmas.{IsScanning, scan-start, scan-next, scan-found, scan-ended}
use Rattle.rs_cache.proofs.client.Client.first_change.Goals as goal

pub loop-path-init : goal.loop-path-init
loop-path-init c =
    let s = c.args.self.now in
    let folder = c.args.folder.now in
    let es = c.self.inside.pending.entries in
    let start : Bound Path = bound_map (λ p. p.now) c.args.start in
    let scan = scan-start s folder start es c.range-path-items.ensures.ordered c.requires.behind in
    let all : es ≡ s.pending = ap (λ (s : State). s.pending) c.self.view_is in
    let rest = c.into_iter-path-iterator.ensures.into_iter_gives ∙ c.range-path-items.ensures.between tt in
    subst (λ (l : List (Path × Pending)). IsScanning s folder start (keys_of l) (keys_of c.into_iter-path-iterator.result)) all
    (subst (λ (l : List (Path × Pending)). IsScanning s folder start (keys_of es) (keys_of l)) (sym rest) scan)

pub returns-then-not-starts_with-clause-first : goal.returns-then-not-starts_with-clause-first
returns-then-not-starts_with-clause-first c =
    let s = c.args.self.now in
    let folder = c.args.folder.now in
    let start : Bound Path = bound_map (λ p. p.now) c.args.start in
    let at = subst (λ (l : List (Path × Pending)). IsScanning s folder start (keys_of s.pending) (keys_of l)) c.in-Some.ensures.steps c.loop-path.invariant in
    sym (scan-ended s folder start (keys_of s.pending) c.in-Some.path.now (keys_of c.next.new.self) at (sym c.starts_with.ensures.prefix ∙ c.if-not-starts_with.true))

pub returns-then-is_viewed-clause-first : goal.returns-then-is_viewed-clause-first
returns-then-is_viewed-clause-first c =
    let s = c.args.self.now in
    let folder = c.args.folder.now in
    let start : Bound Path = bound_map (λ p. p.now) c.args.start in
    let at = subst (λ (l : List (Path × Pending)). IsScanning s folder start (keys_of s.pending) (keys_of l)) c.in-Some.ensures.steps c.loop-path.invariant in
    sym (scan-found s folder start (keys_of s.pending) c.in-Some.path.now (keys_of c.next.new.self) at c.starts_with.result
    (c.starts_with.ensures.below c.requires.folder) c.if-not-starts_with.false (sym c.is_viewed.ensures.viewed ∙ c.if-is_viewed.true))

pub loop-path-preserved : goal.loop-path-preserved
loop-path-preserved c =
    let s = c.args.self.now in
    let folder = c.args.folder.now in
    let start : Bound Path = bound_map (λ p. p.now) c.args.start in
    let at = subst (λ (l : List (Path × Pending)). IsScanning s folder start (keys_of s.pending) (keys_of l)) c.in-Some.ensures.steps c.loop-path.invariant in
    scan-next s folder start (keys_of s.pending) c.in-Some.path.now (keys_of c.next.new.self) at (sym c.is_viewed.ensures.viewed ∙ c.if-is_viewed.false)
