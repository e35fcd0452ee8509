use Rattle.std.proofs.Common.{◌≡◌, ◌+◌, ◌<◌, ℕ, List, [], ◌∷◌, ◌++◌, length, get_or, arith, ap, ◌∙◌}
use Rattle.std.proofs.lemmas.List.{get_or_read}
use Rattle.rs_path.specs.Names.{is_name}
use Rattle.rs_path.specs.Paths.{document_at}
use Rattle.rs_cache.proofs.ListLemmas.{below-longer}
use Rattle.rs_cache.proofs.PastLemmas.{path-short, name-read}
use Rattle.rs_cache.proofs.listing.past_child.Goals as goal

pub bounds-names-depth : goal.bounds-names-depth
bounds-names-depth c =
    let longer = below-longer c.args.folder.now c.args.path.now c.requires.below in
    let folder = ap length c.names-depth.ensures.names in
    let path = ap length c.names-names.ensures.names in
    omega (arith, longer, folder, path)

pub child-requires-clause-room : goal.child-requires-clause-room
child-requires-clause-room c =
    let longer = below-longer c.args.folder.now c.args.path.now c.requires.below in
    let short = path-short c.args.path.now c.names-names.ensures.path in
    omega (arith, longer, short)

pub returns : goal.returns
returns c =
    let f = c.args.folder.now in
    let p = c.args.path.now in
    let longer = below-longer f p c.requires.below in
    let folder = ap length c.names-depth.ensures.names in
    let path = ap length c.names-names.ensures.names in
    let other = c.if-names-depth.false in
    let deep : length f.names + 1 < length p.names = omega (arith, longer, folder, path, other) in
    let name : List ℕ = c.in-Some.name in
    let text : List ℕ = c.as_slice-2.result.now in
    let read : name ≡ text = name-read (is_name text) text name c.in_ok-read.field-0 c.in_ok-read.ensures.read c.in-Some.is in
    let within : length c.names-depth.result.now < length c.names-names.result.now = omega (arith, longer, folder, path) in
    let is : (d : List ℕ) → name ≡ get_or p.names (length f.names) d ++ 48 ∷ [] = λ d.
    read ∙ c.as_slice-2.ensures.value ∙ c.in_ok-push.ensures.items
    ∙ ap (λ (l : List ℕ). l ++ 48 ∷ [])
    (c.in_ok-text.ensures.items ∙ c.as_slice.ensures.bytes
    ∙ get_or_read c.names-names.result.now (length c.names-depth.result.now) c.index-names-depth.result within c.index-names-depth.is d
    ∙ ap (λ (ns : List (List ℕ)). get_or ns (length c.names-depth.result.now) d) c.names-names.ensures.names
    ∙ ap (λ (ns : List (List ℕ)). get_or p.names (length ns) d) c.names-depth.ensures.names) in
    record {
      past = record {
        deep = deep;
        at = λ d. c.in_ok-past-in-Some.ensures.child ∙ ap (λ (n : List ℕ). document_at (f.names ++ n ∷ [])) (is d);
        named = c.names.ensures.path;
      };
    }
