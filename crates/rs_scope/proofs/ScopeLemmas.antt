-- Items and their text: each is read from its own text, and from no other.
use Rattle.std.proofs.Common.{◌≡◌, ℕ, ◌-◌, ◌<◌, ◌≤◌, Bool, true, false, not, nat_le, List, [], ◌∷◌, ◌++◌, length, take, drop, Option, Some, None, option_map, All, arith, refl, sym, ap, ◌∙◌, ⊎_elim, length-append, append_assoc}
use Rattle.std.specs.List.{list_all}
use Rattle.std.specs.Str.{bytes_eq}
use Rattle.std.proofs.lemmas.Bool.{cases_Bool, and_parts, cond-true, cond-false}
use Rattle.std.proofs.lemmas.Bool.Decides.{nat_tests}
use Rattle.std.proofs.Math.Seq.{take-append_seam, drop-append_seam}
use Rattle.std.proofs.lemmas.List.{take-append-drop}
use Rattle.std.proofs.lemmas.List.Elements.{All-nil, All-cons, All-append}
use Rattle.std.proofs.lemmas.Slice.Eq.{bytes_eq-Decides}
use Rattle.rs_path.specs.Names.{is_dots}
use Rattle.rs_scope.specs.declared.scope.Reach.{Reach}
use Rattle.rs_scope.specs.declared.scope.Reach.TheVariants.{Module, Star}
use Rattle.rs_scope.specs.declared.scope.Scope.{Scope}
use Rattle.rs_scope.specs.Modules.{is_module, is_module_byte, public_name}
use Rattle.rs_scope.specs.Scopes.{reach_text, access_text, scope_text, is_reach, is_scope}
use Rattle.rs_scope.specs.ScopeReadings.{reach_reading, scope_over, has_end, without_end, scope_reading, is_space}

-- ---- modules

-- what a module's name is, test by test
pub record HasModule (text : List ℕ) : Type 0 where
  pub some : 0 < length text
  pub short : length text ≤ 64
  pub bytes : list_all is_module_byte text ≡ true
  pub no_dots : is_dots text ≡ false
  pub not_public : bytes_eq text public_name ≡ false

pub HasModule-from : (text : List ℕ) → is_module text ≡ true → HasModule text
HasModule-from text named =
    let a = and_parts _ (not (bytes_eq text public_name)) named in
    let b = and_parts _ (not (is_dots text)) a.0 in
    let c = and_parts _ (list_all is_module_byte text) b.0 in
    let d = and_parts _ (nat_le (length text) 64) c.0 in
    let some = d.0 in
    let short = d.1 in
    let dots = b.1 in
    let public = a.1 in
    record {
      some = grind (arith, nat_tests, some);
      short = grind (arith, nat_tests, short);
      bytes = c.1;
      no_dots = grind (arith, nat_tests, dots);
      not_public = grind (arith, nat_tests, public);
    }

-- no byte is a space
abbrev pub NoSpace : ℕ → Type 0
NoSpace byte = is_space byte ≡ false

no_space : (text : List ℕ) → list_all is_module_byte text ≡ true → All NoSpace text
no_space [] all = All-nil NoSpace
no_space (byte ∷ text) all =
    let parts = and_parts (is_module_byte byte) (list_all is_module_byte text) all in
    let first = parts.0 in
    All-cons NoSpace byte text (grind (arith, nat_tests, first)) (no_space text parts.1)

-- ---- the end of an item

-- a text that ends so is what stands before, and the end
pub has_end-parts : (text end : List ℕ) → has_end text end ≡ true → text ≡ without_end text end ++ end
has_end-parts text end ends =
    let same = (bytes_eq-Decides (drop (length text - length end) text) end).0 ends in
    sym (take-append-drop (length text - length end) text) ∙ ap (λ t. without_end text end ++ t) same

-- what stands before an end that was added
pub without_end-append : (text end : List ℕ) → without_end (text ++ end) end ≡ text
without_end-append text end =
    let count : length (text ++ end) - length end ≡ length text = omega (arith, length-append text end) in
    ap (λ n. take n (text ++ end)) count ∙ take-append_seam text end

pub has_end-append : (text end : List ℕ) → has_end (text ++ end) end ≡ true
has_end-append text end =
    let count : length (text ++ end) - length end ≡ length text = omega (arith, length-append text end) in
    (bytes_eq-Decides (drop (length (text ++ end) - length end) (text ++ end)) end).1 (ap (λ n. drop n (text ++ end)) count ∙ drop-append_seam text end)

-- lists that are equal end alike
last_same : (a b : List ℕ) (x y : ℕ) → a ++ x ∷ [] ≡ b ++ y ∷ [] → x ≡ y
last_same [] [] x y same = cc
last_same [] (c ∷ b) x y same = absurd (omega (arith, ap length same, length-append b (y ∷ [])))
last_same (c ∷ a) [] x y same = absurd (omega (arith, ap length same, length-append a (x ∷ [])))
last_same (c ∷ a) (d ∷ b) x y same = last_same a b x y (cc)

-- an item that is read doesn't end as one that is written
not_written : (text : List ℕ) → has_end (text ++ access_text false) (access_text true) ≡ false
not_written text =
    ⊎_elim
    (λ ends.
    let parts = has_end-parts (text ++ access_text false) (access_text true) ends in
    let front = without_end (text ++ access_text false) (access_text true) in
    let one : (text ++ 58 ∷ []) ++ 114 ∷ [] ≡ (front ++ 58 ∷ 114 ∷ []) ++ 119 ∷ [] = simp append_assoc parts in
    let wrong = last_same (text ++ 58 ∷ []) (front ++ 58 ∷ 114 ∷ []) 114 119 one in
    absurd (omega arith))
    (λ other. other)
    (cases_Bool (has_end (text ++ access_text false) (access_text true)))

-- ---- what is read of a text is spelled so

record NamesReach (text : List ℕ) (reach : Reach) : Type 0 where
  lawful : is_reach reach ≡ true
  text_is : reach_text reach ≡ text

reach_reading-some : (text : List ℕ) (reach : Reach) → reach_reading text ≡ Some reach → NamesReach text reach
reach_reading-some text reach read =
    ⊎_elim
    (λ star.
    let is : Some Star ≡ Some reach = sym (cond-true _ _ _ star) ∙ read in
    let same : reach ≡ Star = cc in
    let text_star = (bytes_eq-Decides text (42 ∷ [])).0 star in
    record { lawful = ap is_reach same; text_is = ap reach_text same ∙ sym text_star })
    (λ other. ⊎_elim
    (λ named.
    let is : Some (Module text) ≡ Some reach = sym (cond-true _ _ _ named) ∙ sym (cond-false _ _ _ other) ∙ read in
    let same : reach ≡ Module text = cc in
    record { lawful = ap is_reach same ∙ named; text_is = ap reach_text same })
    (λ unnamed. let none : None ≡ Some reach = sym (cond-false _ _ _ unnamed) ∙ sym (cond-false _ _ _ other) ∙ read in absurd (cc))
    (cases_Bool (is_module text)))
    (cases_Bool (bytes_eq text (42 ∷ [])))

-- a scope that was read is lawful, and has the text
pub record HasText (word : List ℕ) (scope : Scope) : Type 0 where
  pub lawful : is_scope scope ≡ true
  pub text_is : scope_text scope ≡ word

scope_over-some : (text : List ℕ) (write : Bool) (found : Option Reach) (scope : Scope) → reach_reading text ≡ found
    → option_map (λ reach. record { reach = reach; write = write }) found ≡ Some scope → HasText (text ++ access_text write) scope
scope_over-some text write None scope read made = absurd (cc)
scope_over-some text write (Some reach) scope read made =
    let Make : Reach → Scope = λ reach. record { reach = reach; write = write } in
    let same : Make reach ≡ scope = cc in
    let names = reach_reading-some text reach read in
    record {
      lawful = ap is_scope (sym same) ∙ names.lawful;
      text_is = ap scope_text (sym same) ∙ ap (λ t. t ++ access_text write) names.text_is;
    }

scope_by_end : (word : List ℕ) (write : Bool) (scope : Scope) → has_end word (access_text write) ≡ true
    → scope_over (without_end word (access_text write)) write ≡ Some scope → HasText word scope
scope_by_end word write scope ends read =
    let text = without_end word (access_text write) in
    let has = scope_over-some text write (reach_reading text) scope refl read in
    record { lawful = has.lawful; text_is = has.text_is ∙ sym (has_end-parts word (access_text write) ends) }

pub scope_reading-some : (word : List ℕ) (scope : Scope) → scope_reading word ≡ Some scope → HasText word scope
scope_reading-some word scope read =
    ⊎_elim
    (λ ends. scope_by_end word true scope ends (sym (cond-true _ _ _ ends) ∙ read))
    (λ other. ⊎_elim
    (λ ends. scope_by_end word false scope ends (sym (cond-true _ _ _ ends) ∙ sym (cond-false _ _ _ other) ∙ read))
    (λ neither. let none : None ≡ Some scope = sym (cond-false _ _ _ neither) ∙ sym (cond-false _ _ _ other) ∙ read in absurd (cc))
    (cases_Bool (has_end word (access_text false))))
    (cases_Bool (has_end word (access_text true)))

-- ---- the text of a scope is read as that scope

-- a star is no module's name
star_apart : (name : List ℕ) → is_module name ≡ true → bytes_eq name (42 ∷ []) ≡ false
star_apart name named =
    ⊎_elim
    (λ star.
    let same = (bytes_eq-Decides name (42 ∷ [])).0 star in
    let wrong : true ≡ false = sym named ∙ ap is_module same in
    absurd (cc))
    (λ other. other)
    (cases_Bool (bytes_eq name (42 ∷ [])))

reach_reading-text : (reach : Reach) → is_reach reach ≡ true → reach_reading (reach_text reach) ≡ Some reach
reach_reading-text (Module name) named = cond-false _ _ _ (star_apart name named) ∙ cond-true _ _ _ named
reach_reading-text Star lawful = refl

scope_over-text : (reach : Reach) (write : Bool) → is_reach reach ≡ true
    → scope_over (reach_text reach) write ≡ Some (record { reach = reach; write = write })
scope_over-text reach write lawful = ap (option_map (λ reach. record { reach = reach; write = write })) (reach_reading-text reach lawful)

scope_reading-made : (reach : Reach) (write : Bool) → is_reach reach ≡ true
    → scope_reading (reach_text reach ++ access_text write) ≡ Some (record { reach = reach; write = write })
scope_reading-made reach true lawful =
    cond-true _ _ _ (has_end-append (reach_text reach) (access_text true))
    ∙ ap (λ t. scope_over t true) (without_end-append (reach_text reach) (access_text true))
    ∙ scope_over-text reach true lawful
scope_reading-made reach false lawful =
    cond-false _ _ _ (not_written (reach_text reach))
    ∙ cond-true _ _ _ (has_end-append (reach_text reach) (access_text false))
    ∙ ap (λ t. scope_over t false) (without_end-append (reach_text reach) (access_text false))
    ∙ scope_over-text reach false lawful

pub scope_reading-text : (scope : Scope) → is_scope scope ≡ true → scope_reading (scope_text scope) ≡ Some scope
scope_reading-text scope lawful = scope_reading-made scope.reach scope.write lawful

-- ---- the text of a scope is one word

reach_without_space : (reach : Reach) → is_reach reach ≡ true → All NoSpace (reach_text reach)
reach_without_space (Module name) named = no_space name (HasModule-from name named).bytes
reach_without_space Star lawful = All-cons NoSpace 42 [] refl (All-nil NoSpace)

access_without_space : (write : Bool) → All NoSpace (access_text write)
access_without_space true = All-cons NoSpace 58 (114 ∷ 119 ∷ []) refl (All-cons NoSpace 114 (119 ∷ []) refl (All-cons NoSpace 119 [] refl (All-nil NoSpace)))
access_without_space false = All-cons NoSpace 58 (114 ∷ []) refl (All-cons NoSpace 114 [] refl (All-nil NoSpace))

pub scope_without_space : (scope : Scope) → is_scope scope ≡ true → All NoSpace (scope_text scope)
scope_without_space scope lawful =
    All-append NoSpace (reach_text scope.reach) (access_text scope.write) (reach_without_space scope.reach lawful) (access_without_space scope.write)

-- an item isn't empty
pub scope_some : (scope : Scope) → 0 < length (scope_text scope)
scope_some scope = some scope.write
  where
    some : (write : Bool) → 0 < length (reach_text scope.reach ++ access_text write)
    some true = omega (arith, length-append (reach_text scope.reach) (access_text true))
    some false = omega (arith, length-append (reach_text scope.reach) (access_text false))
