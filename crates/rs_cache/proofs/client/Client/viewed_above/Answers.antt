use Rattle.std.proofs.Common.{◌≡◌, ◌<◌, ℕ, List, length, get_or, arith, ap, ◌∙◌}
use Rattle.rs_path.specs.Paths.{Path}
use Rattle.rs_path.specs.Below.{ancestors_of}
use Rattle.rs_cache.proofs.TwinLemmas.{above-length}
use Rattle.rs_cache.proofs.client.Client.viewed_above.Goals as goal

pub twin-requires : goal.twin-requires
twin-requires c =
    let folders : List Path = c.in_ok-folders.folders.items in
    let depth : ℕ = c.loop-depth.depth in
    let found : Path = c.index.result.now in
    let all : folders ≡ ancestors_of c.args.path.now = c.in_ok-folders.ensures.ancestors in
    let count = ap length all in
    let within : depth < length (ancestors_of c.args.path.now) =
    omega (arith, c.loop-depth-test.true, c.len-depth-end.ensures, c.in_ok-folders.folders.ok.0, count) in
    let is : length found.names ≡ depth =
    ap (λ (p : Path). length p.names) (c.index.ensures ∙ ap (λ (l : List Path). get_or l depth found) all) ∙ above-length c.args.path.now depth found within in
    record { named = omega (arith, is, c.loop-depth.auto.depth) }
