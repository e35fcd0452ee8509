use Rattle.std.proofs.Common.{◌≡◌, ap, ◌∙◌, arith}
use Rattle.sqlite.specs.Held.{state}
use Rattle.sqlite.specs.Effect.{Database}
use Rattle.sqlite.specs.Tree.{Trees}
use Rattle.sqlite_trees.specs.Objects.{version_tree, version_rows}
use Rattle.sqlite_trees.specs.Tree.{with_tree}
use Rattle.sqlite_trees.specs.View.{IsClean}
use Rattle.rs_sqlite.proofs.VersionLemmas.{fresh_then, trees_then, version_is, holds_with_version, undone_trees}
use Rattle.rs_sqlite.proofs.versions.with_version.Goals as goal

pub over-requires : goal.over-requires
over-requires g c clean =
    let view = g.S.Store.view in
    let set : IsClean (view c.set_version.new.self) = omega (arith, clean, c.commit.ensures.clean) in
    let undone : IsClean (view c.into_store-store.result) = omega (arith, set, c.set_version.ensures.quiet.clean) in
    fresh_then (view c.into_store-store.result) (view c.set_version.new.self) (view c.commit.new.self) (version_rows c.args.version)
    (c.in-Ok.ensures.ok set) (c.in-Ok-commit.ensures.ok clean) (c.into_store-store.ensures.numbered undone)

pub returns-in-Ok-over-clause-version : goal.returns-in-Ok-over-clause-version
returns-in-Ok-over-clause-version g c clean =
    let view = g.S.Store.view in
    let stored : IsClean (view c.commit.new.self) = omega (arith, clean, c.in-Ok-over.ensures.clean) in
    let set : IsClean (view c.set_version.new.self) = omega (arith, stored, c.commit.ensures.clean) in
    ap (λ (t : Trees). t version_tree)
    (c.in-Ok-over.ensures.trees clean
    ∙ trees_then (view c.into_store-store.result) (view c.set_version.new.self) (view c.commit.new.self) (version_rows c.args.version) (c.in-Ok.ensures.ok set) (c.in-Ok-commit.ensures.ok stored))
    ∙ version_is (view c.into_store-store.result).trees (version_rows c.args.version)

pub returns-in-Ok-over-clause-holds : goal.returns-in-Ok-over-clause-holds
returns-in-Ok-over-clause-holds g c rows h clean =
    let view = g.S.Store.view in
    let version = version_rows c.args.version in
    let stored : IsClean (view c.commit.new.self) = omega (arith, clean, c.in-Ok-over.ensures.clean) in
    let set : IsClean (view c.set_version.new.self) = omega (arith, stored, c.commit.ensures.clean) in
    let sets = c.in-Ok.ensures.ok set in
    let opened = c.in-Ok-over.ensures.opens clean in
    let undone = undone_trees (view c.args.connection.store) (view c.into_store-store.result) c.into_store-store.ensures.undone
    (g.met.S.Store.broken_if_shut c.into_store-store.result) sets.sound (ap (λ (d : Database). d.trees) h.settled.committed) in
    holds_with_version (state g.S.Store c.args.connection) (state g.S.Store c.in-Ok-over.again) rows version h c.schema-schema.ensures.live opened.0 opened.1
    (c.in-Ok-over.ensures.trees clean
    ∙ trees_then (view c.into_store-store.result) (view c.set_version.new.self) (view c.commit.new.self) version sets (c.in-Ok-commit.ensures.ok stored)
    ∙ ap (λ (t : Trees). with_tree t version_tree version) undone)
