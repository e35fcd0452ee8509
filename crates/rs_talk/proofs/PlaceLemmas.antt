-- The last of heads, which stand one after another.
use Rattle.std.proofs.Common.{◌≡◌, ◌≢◌, ℕ, ◌+◌, ◌≤◌, suc, List, [], ◌∷◌, length, drop, Option, Some, None, option_map, take, ◌-◌, arith, refl, sym, ap, ◌∙◌, subst}
use Rattle.std.specs.Option.{option_map_or}
use Rattle.std.proofs.lemmas.List.{length-drop, length-take, take_all}
use Rattle.rs_request.specs.declared.search.Spot.{Spot}
use Rattle.rs_request.specs.declared.search.Spot.TheVariants.{Before}
use Rattle.rs_request.specs.declared.search.Search.{Search}
use Rattle.rs_request.specs.Lines.{next_spot, first_empty_line, past_breaks}
use Rattle.rs_request.specs.Sought.{IsSought}
use Rattle.rs_request.proofs.Cited.{past_breaks_le}
use Rattle.rs_talk.specs.Places.{or_before, going_on, last_from, last_part}

none_back : (o : Option ℕ) → option_map (λ n. n + 1) o ≡ None → o ≡ None
none_back None is = refl
none_back (Some n) is = absurd (cc)

one_less : (o : Option ℕ) (n : ℕ) → option_map (λ n. n + 1) o ≡ Some n → (k : ℕ) × (o ≡ Some k) × (n ≡ suc k)
one_less None n is = absurd (cc)
one_less (Some k) n is = (k, refl, omega (arith, ap (λ (o : Option ℕ). option_map_or (λ k. k) o 0) is))

-- there is no empty line, so there is no other part
no_line_by : (o : Option Spot) (part bytes : List ℕ) → ((next : Spot) → first_empty_line next bytes ≡ None → last_from next part bytes ≡ part)
    → option_map_or (λ next. option_map (λ n. n + 1) (first_empty_line next bytes)) o (Some 1) ≡ None
    → going_on o part bytes (λ next later. last_from next later bytes) ≡ part
no_line_by (Some next) part bytes again none = again next (none_back (first_empty_line next bytes) none)
no_line_by None part bytes again none = absurd (cc)

pub no_line : (spot : Spot) (part bytes : List ℕ) → first_empty_line spot bytes ≡ None → last_from spot part bytes ≡ part
no_line spot part [] none = refl
no_line spot part (b ∷ bytes) none = no_line_by (next_spot spot b) part bytes (λ next. no_line next part bytes) none

-- the part goes on behind the first empty line
jump_by : (o : Option Spot) (part : List ℕ) (b : ℕ) (bytes : List ℕ) (n : ℕ)
    → ((next : Spot) (k : ℕ) → first_empty_line next bytes ≡ Some k → last_from next part bytes ≡ last_from Before (or_before part (drop k bytes)) (drop k bytes))
    → option_map_or (λ next. option_map (λ n. n + 1) (first_empty_line next bytes)) o (Some 1) ≡ Some n
    → going_on o part bytes (λ next later. last_from next later bytes)
    ≡ last_from Before (or_before part (drop n (b ∷ bytes))) (drop n (b ∷ bytes))
jump_by (Some next) part b bytes n again is =
    let less = one_less (first_empty_line next bytes) n is in
    again next less.0 less.1
    ∙ ap (λ (m : ℕ). last_from Before (or_before part (drop m (b ∷ bytes))) (drop m (b ∷ bytes))) (sym less.2)
jump_by None part b bytes n again is =
    let one : 1 ≡ n = ap (λ (o : Option ℕ). option_map_or (λ k. k) o 0) is in
    ap (λ (m : ℕ). last_from Before (or_before part (drop m (b ∷ bytes))) (drop m (b ∷ bytes))) one

jump : (spot : Spot) (part bytes : List ℕ) (n : ℕ) → first_empty_line spot bytes ≡ Some n
    → last_from spot part bytes ≡ last_from Before (or_before part (drop n bytes)) (drop n bytes)
jump spot part [] n is = absurd (cc)
jump spot part (b ∷ bytes) n is = jump_by (next_spot spot b) part b bytes n (λ next k. jump next part bytes k) is

-- a head that nothing follows is the last
pub last_alone : (heads : List ℕ) (n : ℕ) → first_empty_line Before heads ≡ Some n → n ≡ length heads → last_part heads ≡ heads
last_alone heads n is all = jump Before heads heads n is ∙ ended heads (drop n heads) (omega (arith, all, length-drop n heads))
  where
    ended : (part bytes : List ℕ) → length bytes ≡ 0 → last_from Before (or_before part bytes) bytes ≡ part
    ended part [] none = refl
    ended part (b ∷ bytes) none = absurd (omega (arith, none))

-- the last of heads is the last of those behind the first
pub last_behind : (heads : List ℕ) (n : ℕ) → first_empty_line Before heads ≡ Some n → n ≤ length heads → n ≢ length heads
    → last_part heads ≡ last_part (drop n heads)
last_behind heads n is within more = jump Before heads heads n is ∙ going heads (drop n heads) (λ none. more (omega (arith, none, within, length-drop n heads)))
  where
    going : (part bytes : List ℕ) → length bytes ≢ 0 → last_from Before (or_before part bytes) bytes ≡ last_part bytes
    going part [] some = absurd (some refl)
    going part (b ∷ bytes) some = refl

-- a search that looked at nothing
fresh : (search : Search) (bytes : List ℕ) → search ≡ record { sought = 0; spot = Before } → IsSought Before search bytes
fresh search bytes is = subst (λ s. IsSought Before s bytes) (sym is) (record { within = omega arith; spot = refl })

-- what it finds
pub sought : (search : Search) (bytes : List ℕ) (found wanted : Option ℕ) → search ≡ record { sought = 0; spot = Before }
    → ((start : Spot) → IsSought start search bytes → found ≡ first_empty_line start bytes) → found ≡ wanted
    → first_empty_line Before bytes ≡ wanted
sought search bytes found wanted is finds same = sym (finds Before (fresh search bytes is)) ∙ same

-- the head's first byte stands before its end
pub within_end : (broken last heads bytes : List ℕ) (end : ℕ) → broken ≡ past_breaks last → length last ≤ length heads → heads ≡ take end bytes
    → length broken ≤ end
within_end broken last heads bytes end is within front =
    omega (arith, ap (λ (l : List ℕ). length l) is, past_breaks_le last, within, ap (λ (l : List ℕ). length l) front, length-take end bytes)

-- all that stands behind some bytes
pub rest_all : (bytes : List ℕ) (at : ℕ) → take (length bytes - at) (drop at bytes) ≡ drop at bytes
rest_all bytes at = take_all (length bytes - at) (drop at bytes) (omega (arith, length-drop at bytes))
