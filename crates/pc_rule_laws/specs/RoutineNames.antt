-- The names of the routines of a block: a later declaration of a forward one declares nothing, and its name stands before.
use Rattle.std.proofs.Common.{Bool, List, None, Option, Some, [], ap, append-nil, bytes_eq, false, if◌then◌else◌, is_some, length, not, refl, sym, true, ℕ, ◌&&◌, ◌++◌, ◌==◌, ◌||◌, ◌∙◌, ◌∷◌, ◌≡◌}
use Rattle.std.proofs.lemmas.Bool.{or_right}
use Rattle.pc_rule_laws.specs.ClassedPlaces.{with_class}
use Rattle.pc_rule_laws.specs.Matching.{Matches, Matches-append, one-head}
use Rattle.pc_rule_laws.specs.NameNodes.{head_one, one-is}
use Rattle.pc_rule_laws.specs.Orderly.{HeadName}
use Rattle.pc_rule_laws.specs.Roles.{first_node, one}
use Rattle.pc_rule_laws.specs.Standing.{Classed, class_of, entry_of-append, equal, first_of, first_of-append, is_some-class, or_else}
use Rattle.pc_rules.specs.Decorated.{decorate}
use Rattle.pc_rules.specs.Meanings.{Class, Local, Meaning, Outside, define, define_all, entry_of}
use Rattle.pc_scope.specs.Declarations.{name_at}
use Rattle.pc_scope.specs.Headings.{Heading, any_pairs, first_name, pairs, same_side, without_pairs}
use Rattle.pc_syntax.specs.Plain.{Cons, Forest, Nil}
use Rattle.pc_syntax.specs.Sorts.{is_hole}
use Rattle.pc_syntax.specs.Words.{lowered}
use Rattle.pc_types.specs.Sameness.{same}

-- the names of the headings that wait are declared
abbrev pub Waits : List ℕ → List Heading → List (List ℕ × Class) → Type 0
Waits n ws ds = (g : Heading) → any_pairs g ws ≡ true → bytes_eq g.name n ≡ true → is_some (entry_of ds n) ≡ true

pub define_all-ahead : (l : Local) (ds : List (List ℕ × Meaning)) → (define_all l ds).ahead ≡ l.ahead
define_all-ahead l [] = refl
define_all-ahead l (d ∷ ds) = define_all-ahead (define l d.0 d.1) ds

pub define_all-waiting : (l : Local) (ds : List (List ℕ × Meaning)) → (define_all l ds).waiting ≡ l.waiting
define_all-waiting l [] = refl
define_all-waiting l (d ∷ ds) = define_all-waiting (define l d.0 d.1) ds

either : (a b c : Bool) → (b ≡ true → c ≡ true) → (a || b) ≡ true → (a || c) ≡ true
either true b c f e = refl
either false b c f e = f e

-- the headings without those that pair with one
fewer : (g h : Heading) (ws : List Heading) → any_pairs g (without_pairs h ws) ≡ true → any_pairs g ws ≡ true
fewer g h [] e = e
fewer g h (x ∷ ws) e =
    let by : any_pairs g (if pairs h x then without_pairs h ws else x ∷ without_pairs h ws) ≡ true → (pairs g x || any_pairs g ws) ≡ true =
    elim (pairs h x) as (λ (b : Bool). any_pairs g (if b then without_pairs h ws else x ∷ without_pairs h ws) ≡ true → (pairs g x || any_pairs g ws) ≡ true) [
      | true ↦ (λ e. or_right (pairs g x) (any_pairs g ws) (fewer g h ws e))
      | false ↦ (λ e. either (pairs g x) (any_pairs g (without_pairs h ws)) (any_pairs g ws) (fewer g h ws) e)
    ] in by e

-- headings that pair have one name
paired-name : (g h : Heading) → pairs g h ≡ true → g.name ≡ h.name
paired-name g h e = by (not (length g.name == 0)) (bytes_eq g.name h.name) refl e where
  by : (a b : Bool) → bytes_eq g.name h.name ≡ b → ((a && b) && same_side g.is_function h.is_function) ≡ true → g.name ≡ h.name
  by true true f e = equal g.name h.name f
  by true false f e = cc e
  by false b f e = cc e

-- the name of a routine that counts is that of its heading
pub own-name : (n q : List ℕ) (c : Class) (ks : Forest) (e : Classed) → first_of (with_class c (name_at None q ks)) n ≡ Some e → bytes_eq (first_name ks) n ≡ true
own-name n q c Nil e is = cc is
own-name n q c (Cons k w ns ks ts) e is = by (is_hole k) is where
  named : (b : Bool) → (if b then Some (record { at = record { name = lowered w; place = q ++ 1 ∷ []; definition = None }; class = c }) else None) ≡ Some e → b ≡ true
  named true is = refl
  named false is = cc is

  by : (b : Bool) → first_of (with_class c (if b then [] else record { name = lowered w; place = q ++ 1 ∷ []; definition = None } ∷ [])) n ≡ Some e →
      bytes_eq (if b then [] else lowered w) n ≡ true
  by true is = cc is
  by false is = named (bytes_eq (lowered w) n) is

-- and it is declared at a heading that declares
one-name : (out : Outside) (l : Local) (b : ℕ) (bs : List ℕ) (c : Class) (ks : Forest) → HeadName ks → bytes_eq (first_name ks) (b ∷ bs) ≡ true →
    is_some (entry_of (one c (first_node (decorate out l ks))) (b ∷ bs)) ≡ true
one-name out l b bs c ks h e = ap (λ ds. is_some (entry_of ds (b ∷ bs))) (one-is out l c ks h) ∙ by ks e where
  by : (f : Forest) → bytes_eq (first_name f) (b ∷ bs) ≡ true → is_some (entry_of (head_one c f) (b ∷ bs)) ≡ true
  by Nil e = cc e
  by (Cons k w ns ks ts) e = two (is_hole k) e where
    two : (t : Bool) → bytes_eq (if t then [] else lowered w) (b ∷ bs) ≡ true → is_some (entry_of (if t then [] else (lowered w, c) ∷ []) (b ∷ bs)) ≡ true
    two true e = cc e
    two false e = ap (λ t. is_some (if t then Some c else None)) e

pub some-more : (n : List ℕ) (ds cs : List (List ℕ × Class)) → is_some (entry_of ds n) ≡ true → is_some (entry_of (ds ++ cs) n) ≡ true
some-more n ds cs e = ap is_some (entry_of-append ds cs n) ∙ by (entry_of ds n) e where
  by : (o : Option Class) → is_some o ≡ true → is_some (or_else o (entry_of cs n)) ≡ true
  by None e = cc e
  by (Some c) e = refl

pub some-also : (n : List ℕ) (ds cs : List (List ℕ × Class)) → is_some (entry_of cs n) ≡ true → is_some (entry_of (ds ++ cs) n) ≡ true
some-also n ds cs e = ap is_some (entry_of-append ds cs n) ∙ by (entry_of ds n) e where
  by : (o : Option Class) → is_some (entry_of cs n) ≡ true → is_some (or_else o (entry_of cs n)) ≡ true
  by None e = e
  by (Some c) e = refl

module _ (out : Outside) (b : ℕ) (bs q : List ℕ) (c : Class) (l : Local) (ks : Forest) (head : HeadName ks) (inside : Local) where
  abbrev pub added : Bool → List (List ℕ × Class)
  added later = if later then [] else one c (first_node (decorate out inside ks))

  -- what counts of the routine's name
  pub routine-matches : (later : Bool) (ds : List (List ℕ × Class)) (es : List Classed) → (later ≡ true → bytes_eq (first_name ks) (b ∷ bs) ≡ true → is_some (entry_of ds (b ∷ bs)) ≡ true) →
      Matches (b ∷ bs) ds es → Matches (b ∷ bs) (ds ++ added later) (es ++ with_class c (name_at None q ks))
  routine-matches false ds es w m = Matches-append (b ∷ bs) ds (one c (first_node (decorate out inside ks))) es (with_class c (name_at None q ks)) m (one-head out inside (b ∷ bs) c None q ks head)
  routine-matches true ds es w m =
      ap (λ zs. entry_of zs (b ∷ bs)) (append-nil ds) ∙ m
      ∙ ap class_of (by (first_of es (b ∷ bs)) (first_of (with_class c (name_at None q ks)) (b ∷ bs)) (λ e is. sym (is_some-class (first_of es (b ∷ bs))) ∙ ap is_some (sym m) ∙ w refl (own-name (b ∷ bs) q c ks e is)) refl
      ∙ sym (first_of-append es (with_class c (name_at None q ks)) (b ∷ bs))) where
        by : (x y : Option Classed) → ((e : Classed) → y ≡ Some e → is_some x ≡ true) → y ≡ y → x ≡ or_else x y
        by (Some d) y f r = refl
        by None None f r = refl
        by None (Some e) f r = cc (f e refl)

  -- and what waits behind it
  pub routine-waits : (h : Heading) (ws : List Heading) (ds : List (List ℕ × Class)) → h.name ≡ first_name ks → Waits (b ∷ bs) ws ds →
      Waits (b ∷ bs) (if h.is_forward then h ∷ ws else without_pairs h ws) (ds ++ added (not h.is_forward && any_pairs h ws))
  routine-waits h ws ds named waits = by h.is_forward where
    by : (f : Bool) → Waits (b ∷ bs) (if f then h ∷ ws else without_pairs h ws) (ds ++ added (not f && any_pairs h ws))
    by true g any same = two (pairs g h) refl any where
      two : (p : Bool) → pairs g h ≡ p → (p || any_pairs g ws) ≡ true → is_some (entry_of (ds ++ added false) (b ∷ bs)) ≡ true
      two true e any = some-also (b ∷ bs) ds (added false) (one-name out inside b bs c ks head (ap (λ x. bytes_eq x (b ∷ bs)) (sym named ∙ sym (paired-name g h e)) ∙ same))
      two false e any = some-more (b ∷ bs) ds (added false) (waits g any same)
    by false g any same = some-more (b ∷ bs) ds (added (any_pairs h ws)) (waits g (fewer g h ws any) same)
