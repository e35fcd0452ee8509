-- When conditions are met (RFC 9110, sections 13.1.1 and 13.1.2).
use Rattle.std.specs.Prelude.{ℕ, Bool, true, false, not, ◌&&◌, List, decimal}
use Rattle.std.specs.List.{list_any}
use Rattle.std.specs.Str.{bytes_eq}
use Rattle.rs_rules.specs.declared.entity_tag.EntityTag.{EntityTag}
use Rattle.rs_rules.specs.declared.cond.Cond.{Cond}
use Rattle.rs_rules.specs.declared.cond.Cond.TheVariants.{Missing, Any, Tags}

-- a tag of the list that isn't weak is the version in decimal (strong comparison, RFC 9110, section 8.8.3.2)
abbrev pub lists_strong : List EntityTag → ℕ → Bool
lists_strong tags version = list_any (λ (t : EntityTag). not t.weak && bytes_eq t.tag (decimal version)) tags

-- a tag of the list, weak or not, is the version in decimal (weak comparison)
abbrev pub lists_weak : List EntityTag → ℕ → Bool
lists_weak tags version = list_any (λ (t : EntityTag). bytes_eq t.tag (decimal version)) tags

-- If-Match holds of what is there or not and has the version: it is missing, or it is there and `*` or its tag is listed
abbrev pub meets : Cond → Bool → ℕ → Bool
meets Missing there version = true
meets Any there version = there
meets (Tags tags) there version = there && lists_strong tags version

-- If-None-Match excludes what is there and has the version: it names it
abbrev pub excludes : Cond → Bool → ℕ → Bool
excludes Missing there version = false
excludes Any there version = there
excludes (Tags tags) there version = there && lists_weak tags version
