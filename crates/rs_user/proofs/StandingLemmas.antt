-- What a state stands for after one entry more.
use Rattle.std.proofs.Common.{◌≡◌, ℕ, ◌+◌, Bool, true, false, cond, refl, List, [], ◌∷◌, arith, sym, ap, ◌∙◌, subst, length-append}
use Rattle.std.proofs.Math.Path.{fun_ext}
use Rattle.rs_path.specs.Paths.{Path}
use Rattle.rs_path.specs.declared.log_entry.LogEntry.{LogEntry}
use Rattle.rs_scope.specs.declared.scope.Scope.{Scope}
use Rattle.rs_record.specs.declared.records.Record.TheVariants.{Grant, Revoke}
use Rattle.rs_record.specs.declared.records.Record.{Record}
use Rattle.rs_rules.specs.Histories.{History, len, with_entry}
use Rattle.rs_rules.specs.Documents.{docs, doc_in}
use Rattle.rs_rules.specs.Versions.{folder_version, doc_version, ver}
use Rattle.rs_rules.specs.Tokens.{scopes_of}
use Rattle.rs_rules.specs.Contents.{Contents, contents, contents_after}
use Rattle.rs_rules.specs.Lawful.{IsLawful}
use Rattle.rs_user.specs.declared.state.UserState.{UserState}
use Rattle.rs_user.specs.Grants.{scopes_in}
use Rattle.rs_user.specs.Standing.{StandsFor}

twice : (b : Bool) (x y : ℕ) → cond b (cond b x y) y ≡ cond b x y
twice true x y = refl
twice false x y = refl

shown_again : (h : History) (path : Path) → cond path.folder (ver h path) (doc_version (doc_in path (docs h))) ≡ ver h path
shown_again h path = twice path.folder (folder_version h path) (doc_version (doc_in path (docs h)))

-- a grant and a revocation change no document and no version
pub contents_granted : (n : ℕ) (h : History) (token : List ℕ) (scopes : List Scope) → contents_after n (Grant token scopes) (contents h) ≡ contents h
contents_granted n h token scopes = ap (λ version. record { docs = docs h; version = version }) (fun_ext (λ path. shown_again h path))

pub contents_revoked : (n : ℕ) (h : History) (token : List ℕ) → contents_after n (Revoke token) (contents h) ≡ contents h
contents_revoked n h token = ap (λ version. record { docs = docs h; version = version }) (fun_ext (λ path. shown_again h path))

module _ {T : Type 0} (tree_stands : T → Contents → Type 0) where
  -- a tree that was given the record's number, which is one more than the length
  pub tree_more : (tree : T) (n : ℕ) (h : History) (e : LogEntry Record) → n ≡ len h
      → contents (with_entry h e) ≡ contents_after (len h + 1) e.what (contents h)
      → tree_stands tree (contents_after (n + 1) e.what (contents h)) → tree_stands tree (contents (with_entry h e))
  tree_more tree n h e same step stands =
      subst (tree_stands tree) (ap (λ k. contents_after (k + 1) e.what (contents h)) same ∙ sym step) stands

  pub tree_granted : (tree : T) (h : History) (who : ℕ) (token : List ℕ) (scopes : List Scope)
      → contents (with_entry h (record { who = who; what = Grant token scopes })) ≡ contents_after (len h + 1) (Grant token scopes) (contents h)
      → tree_stands tree (contents h) → tree_stands tree (contents (with_entry h (record { who = who; what = Grant token scopes })))
  tree_granted tree h who token scopes step stands = subst (tree_stands tree) (sym (step ∙ contents_granted (len h + 1) h token scopes)) stands

  pub tree_revoked : (tree : T) (h : History) (who : ℕ) (token : List ℕ)
      → contents (with_entry h (record { who = who; what = Revoke token })) ≡ contents_after (len h + 1) (Revoke token) (contents h)
      → tree_stands tree (contents h) → tree_stands tree (contents (with_entry h (record { who = who; what = Revoke token })))
  tree_revoked tree h who token step stands = subst (tree_stands tree) (sym (step ∙ contents_revoked (len h + 1) h token)) stands

module _ {T R : Type 0} (tree_stands : T → Contents → Type 0) where
  pub stands_more : (state new : UserState T R) (h : History) (e : LogEntry Record) → StandsFor tree_stands state h → IsLawful (with_entry h e)
      → tree_stands new.tree (contents (with_entry h e))
      → ((token : List ℕ) → scopes_in token new.granted ≡ scopes_of (with_entry h e) token)
      → new.len ≡ state.len + 1 → new.cut ≡ state.cut → new.rows ≡ state.rows + 1
      → StandsFor tree_stands new (with_entry h e)
  stands_more state new h e stands lawful tree scopes counted cut rows =
      let more = length-append h.entries (e ∷ []) in
      record {
        shows = record { tree = tree; scopes = scopes; len = omega (arith, counted, stands.shows.len, more) };
        lawful = lawful;
        cut = cut ∙ stands.cut;
        rows = omega (arith, rows, stands.rows, more);
      }
