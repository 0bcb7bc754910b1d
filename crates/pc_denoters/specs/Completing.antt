-- The constants of an enumerated type become known, one after the other.
use Rattle.std.specs.Prelude.{◌≡◌, ◌+◌, ℕ, Bool, true, false, not, if◌then◌else◌, List, [], ◌∷◌, ◌++◌, suc, length, Option, Some, None, option_map, pos}
use Rattle.std.proofs.Common.{refl, ap, sym, ◌∙◌, subst, arith, append_assoc, append-nil}
use Rattle.pc_syntax.specs.Words.{is_among}
use Rattle.pc_types.specs.Shapes.{Owner, Shape, Typed}
use Rattle.pc_types.specs.Table.{shape_at}
use Rattle.pc_types.specs.declared.form.OwnerId.{OwnerId}
use Rattle.pc_types.specs.declared.operand.Operand.{Operand}
use Rattle.pc_names.specs.Numbers.{number_of}
use Rattle.pc_names.specs.StandingLaws.{knowing}
use Rattle.pc_names.specs.TableLaws.{slice_get-number_of}
use Rattle.pc_rules.specs.Denoters.{elements}
use Rattle.pc_rules.specs.Meanings as rules
use Rattle.pc_rules.specs.Meanings.{Ordinal, ElementName, Meaning, declared_as, Local, Outside, define, define_all}
use Rattle.pc_facts.specs.Known.{Known}
use Rattle.pc_facts.specs.Shows.{ShowsType, ShowsValues, shape_of}
use Rattle.pc_growth.specs.GrowsLaws.{ShowsType-grows}
use Rattle.pc_places.specs.MovesLaws.{Moves-then, Moves-same}
use Rattle.pc_places.specs.NumberingLaws.{number_of-begins}
use Rattle.pc_places.specs.Places.{known, IsPlace, Moves}
use Rattle.pc_places.specs.Scenes.{Declares}
use Rattle.pc_places.specs.declared.tables.Tables.{Tables}
use Rattle.pc_denoters.specs.Elements.{element, element_value}
use Rattle.pc_denoters.specs.Passing.{ArePassed, all_known}
use Rattle.pc_denoters.specs.declared.enumerations.Passed.{Passed}

-- the value of a constant with this number, where the type is known
abbrev pub value_of_element : ℕ → Option Shape → Option rules.Value
value_of_element i s = option_map (λ (t : Shape). let v : rules.Value = record { type = t; constant = Ordinal (pos i) } in v) s

-- the constant with this number of a type
abbrev pub element_meaning : Owner → Option Shape → ℕ → Meaning
element_meaning o s i = record (declared_as ElementName o) { value = value_of_element i s }

-- those of these names that were the first are known as constants of the type
pub record CompletedSoFar (block : ℕ) (owner : OwnerId) (of : Option Operand) (old new : Tables) (es : List Passed) : Type 0 where
  pub moves : Moves block old new
  pub place : (out : Outside) (l : Local) (p ns : List (List ℕ)) (ty : Option Typed) → IsPlace old block owner.0 out l → ArePassed old.names.texts p es ns → ShowsType (known old).table of ty →
      IsPlace new block owner.0 out (record l { known = all_known p l.known (elements l.owner (shape_of ty) 0 ns) })

-- ---- what is known

-- one more declaration, where the name did not stand before
abbrev pub with_one : Bool → List (List ℕ × Meaning) → List ℕ × Meaning → List (List ℕ × Meaning)
with_one b ms d = if b then ms else ms ++ d ∷ []

pub known-end : (o : Owner) (s : Option Shape) (before : List (List ℕ)) (ms : List (List ℕ × Meaning)) (i : ℕ) (ns : List (List ℕ)) (n : List ℕ) →
    all_known before ms (elements o s i (ns ++ n ∷ [])) ≡ with_one (is_among (before ++ ns) n) (all_known before ms (elements o s i ns)) (n, element_meaning o s (i + length ns))
known-end o s before ms i [] n =
    ap (λ (p : List (List ℕ)). with_one (is_among p n) ms (n, element_meaning o s i)) (sym (append-nil before))
    ∙ ap (λ j. with_one (is_among (before ++ []) n) ms (n, element_meaning o s j)) (let e : i ≡ i + 0 = omega arith in e)
known-end o s before ms i (u ∷ ns) n =
    let rest = if is_among before u then ms else ms ++ (u, element_meaning o s i) ∷ [] in
    known-end o s (before ++ u ∷ []) rest (suc i) ns n
    ∙ ap (λ (p : List (List ℕ)). with_one (is_among p n) (all_known (before ++ u ∷ []) rest (elements o s (suc i) ns)) (n, element_meaning o s (suc i + length ns))) (append_assoc before (u ∷ []) ns)
    ∙ ap (λ j. with_one (is_among (before ++ u ∷ ns) n) (all_known (before ++ u ∷ []) rest (elements o s (suc i) ns)) (n, element_meaning o s j)) (let e : suc i + length ns ≡ i + suc (length ns) = omega arith in e)

-- the names that are declared
abbrev firsts : List (List ℕ × Meaning) → List (List ℕ)
firsts [] = []
firsts (d ∷ ds) = d.0 ∷ firsts ds

firsts-elements : (o : Owner) (s : Option Shape) (i : ℕ) (ns : List (List ℕ)) → firsts (elements o s i ns) ≡ ns
firsts-elements o s i [] = refl
firsts-elements o s i (n ∷ ns) = ap (λ (v : List (List ℕ)). n ∷ v) (firsts-elements o s (suc i) ns)

defined-known : (l : Local) (ds : List (List ℕ × Meaning)) → define_all l ds ≡ record l { passed = l.passed ++ firsts ds; known = all_known l.passed l.known ds }
defined-known l [] = ap (λ (p : List (List ℕ)). record l { passed = p; known = l.known }) (sym (append-nil l.passed))
defined-known l (d ∷ ds) =
    defined-known (define l d.0 d.1) ds
    ∙ ap (λ (p : List (List ℕ)). record l { passed = p; known = all_known (l.passed ++ d.0 ∷ []) (if is_among l.passed d.0 then l.known else l.known ++ d ∷ []) ds }) (append_assoc l.passed (d.0 ∷ []) (firsts ds))

-- passing all names of a list, and completing those that were the first, is declaring them all
pub defined-elements : (l : Local) (o : Owner) (s : Option Shape) (ns : List (List ℕ)) → define_all l (elements o s 0 ns) ≡ record l { passed = l.passed ++ ns; known = all_known l.passed l.known (elements o s 0 ns) }
defined-elements l o s ns =
    defined-known l (elements o s 0 ns) ∙ ap (λ (ms : List (List ℕ)). record l { passed = l.passed ++ ms; known = all_known l.passed l.known (elements o s 0 ns) }) (firsts-elements o s 0 ns)

-- ---- one more constant

-- the last of some names, and those before it
pub record LastPassed (texts before : List (List ℕ)) (es : List Passed) (e : Passed) (all : List (List ℕ)) : Type 0 where
  pub names : List (List ℕ)
  pub name : List ℕ
  pub are : all ≡ names ++ name ∷ []
  pub so_far : ArePassed texts before es names
  pub number : number_of texts name ≡ Some e.name.0
  pub first : e.first ≡ not (is_among (before ++ names) name)
  pub count : length names ≡ length es

pub last-passed : (texts before : List (List ℕ)) (es : List Passed) (e : Passed) (all : List (List ℕ)) → ArePassed texts before (es ++ e ∷ []) all → LastPassed texts before es e all
last-passed texts before [] e [] h = absurd h
last-passed texts before [] e (n ∷ []) h = record { names = []; name = n; are = refl; so_far = tt; number = h.0; first = h.1 ∙ ap (λ (p : List (List ℕ)). not (is_among p n)) (sym (append-nil before)); count = refl }
last-passed texts before [] e (n ∷ m ∷ ns) h = absurd h.2
last-passed texts before (d ∷ es) e [] h = absurd h
last-passed texts before (d ∷ es) e (n ∷ ns) h =
    let r = last-passed texts (before ++ n ∷ []) es e ns h.2 in
    record {
      names = n ∷ r.names;
      name = r.name;
      are = ap (λ (v : List (List ℕ)). n ∷ v) r.are;
      so_far = (h.0, h.1, r.so_far);
      number = r.number;
      first = r.first ∙ ap (λ (p : List (List ℕ)). not (is_among p r.name)) (append_assoc before (n ∷ []) r.names);
      count = ap suc r.count;
    }

value-shown : (k : Known) (i : ℕ) (of : Option Operand) (ty : Option Typed) → ShowsType k.table of ty → ShowsValues k (option_map (element_value i) of) (value_of_element i (shape_of ty))
value-shown k i None None h = tt
value-shown k i (Some o) (Some ty) h = record { shape = let e : Some (shape_at k.table o) ≡ Some ty.shape = h.shape in cc; there = h.there o refl; constant = refl }
value-shown k i None (Some ty) h = absurd (let e : None ≡ Some ty.shape = h.shape in cc)
value-shown k i (Some o) None h = absurd (let e : Some (shape_at k.table o) ≡ None = h.shape in cc)

-- the declaration of a constant shows what it means
pub element-declares : (t : Tables) (block : ℕ) (owner : OwnerId) (out : Outside) (l : Local) (e : Passed) (i : ℕ) (n : List ℕ) (of : Option Operand) (ty : Option Typed) → IsPlace t block owner.0 out l → number_of t.names.texts n ≡ Some e.name.0 →
    ShowsType (known t).table of ty → Declares (known t) n (element owner e.name i of) (element_meaning l.owner (shape_of ty) i)
element-declares t block owner out l e i n of ty place number shown = record {
  shows = record {
    class = refl;
    owner = place.owner_is;
    owner_there = place.there;
    name = slice_get-number_of t.names.texts n e.name.0 number;
    value = value-shown (known t) i of ty shown;
    type = record { shape = refl; there = λ y q. cc };
    signature = tt;
  };
  bare = λ q. refl;
  plain = λ q. refl;
}

pub completed-none : (block : ℕ) (owner : OwnerId) (of : Option Operand) (t : Tables) → CompletedSoFar block owner of t t []
completed-none block owner of t = record { moves = Moves-same block t; place = λ out l p ns ty place h shown. nothing p ns l out place h ty }
  where
    nothing : (p ns : List (List ℕ)) (l : Local) (out : Outside) → IsPlace t block owner.0 out l → ArePassed t.names.texts p [] ns → (ty : Option Typed) →
        IsPlace t block owner.0 out (record l { known = all_known p l.known (elements l.owner (shape_of ty) 0 ns) })
    nothing p [] l out place h ty = place
    nothing p (n ∷ ns) l out place h ty = absurd h

not-not : (b c : Bool) → b ≡ not c → c ≡ not b
not-not true true e = cc
not-not true false e = refl
not-not false true e = refl
not-not false false e = cc

-- one more that was the first
pub completed-first : (block : ℕ) (owner : OwnerId) (of : Option Operand) (t0 t1 t2 : Tables) (es : List Passed) (e : Passed) → e.first ≡ true → CompletedSoFar block owner of t0 t1 es →
    ((o : ℕ) (out : Outside) (l : Local) (n : List ℕ) (m : Meaning) → number_of t1.names.texts n ≡ Some e.name.0 → Declares (known t1) n (element owner e.name (length es) of) m → IsPlace t1 block o out l → IsPlace t2 block o out (knowing l n m)) →
    Moves block t1 t2 → CompletedSoFar block owner of t0 t2 (es ++ e ∷ [])
completed-first block owner of t0 t1 t2 es e first so step moves = record {
  moves = Moves-then block t0 t1 t2 so.moves moves;
  place = λ out l p ns ty place h shown.
      let r = last-passed t0.names.texts p es e ns h in
      let s = shape_of ty in
      let ms = all_known p l.known (elements l.owner s 0 r.names) in
      let m = element_meaning l.owner s (length es) in
      let at = so.place out l p r.names ty place r.so_far shown in
      let shown1 = ShowsType-grows (known t0).table (known t1).table of ty so.moves.grows.shapes so.moves.grows.owners shown in
      let number : number_of t1.names.texts r.name ≡ Some e.name.0 = number_of-begins t0.names.texts t1.names.texts r.name e.name.0 so.moves.grows.names r.number in
      let new : IsPlace t2 block owner.0 out (record l { known = ms ++ (r.name, m) ∷ [] }) =
      step owner.0 out (record l { known = ms }) r.name m number (element-declares t1 block owner out (record l { known = ms }) e (length es) r.name of ty at number shown1) at in
      let none : is_among (p ++ r.names) r.name ≡ false = not-not e.first (is_among (p ++ r.names) r.name) r.first ∙ ap not first in
      let is : all_known p l.known (elements l.owner s 0 ns) ≡ ms ++ (r.name, m) ∷ [] =
      ap (λ (v : List (List ℕ)). all_known p l.known (elements l.owner s 0 v)) r.are ∙ known-end l.owner s p l.known 0 r.names r.name
      ∙ ap (λ (b : Bool). with_one b ms (r.name, element_meaning l.owner s (0 + length r.names))) none ∙ ap (λ j. ms ++ (r.name, element_meaning l.owner s j) ∷ []) (let z : 0 + length r.names ≡ length es = omega (arith, r.count) in z) in
      subst (λ (v : List (List ℕ × Meaning)). IsPlace t2 block owner.0 out (record l { known = v })) (sym is) new;
}

-- one more that was not
pub completed-second : (block : ℕ) (owner : OwnerId) (of : Option Operand) (t0 t1 : Tables) (es : List Passed) (e : Passed) → e.first ≡ false → CompletedSoFar block owner of t0 t1 es → CompletedSoFar block owner of t0 t1 (es ++ e ∷ [])
completed-second block owner of t0 t1 es e second so = record {
  moves = so.moves;
  place = λ out l p ns ty place h shown.
      let r = last-passed t0.names.texts p es e ns h in
      let s = shape_of ty in
      let ms = all_known p l.known (elements l.owner s 0 r.names) in
      let some : is_among (p ++ r.names) r.name ≡ true = not-not e.first (is_among (p ++ r.names) r.name) r.first ∙ ap not second in
      let is : all_known p l.known (elements l.owner s 0 ns) ≡ ms =
      ap (λ (v : List (List ℕ)). all_known p l.known (elements l.owner s 0 v)) r.are ∙ known-end l.owner s p l.known 0 r.names r.name
      ∙ ap (λ (b : Bool). with_one b ms (r.name, element_meaning l.owner s (0 + length r.names))) some in
      subst (λ (v : List (List ℕ × Meaning)). IsPlace t1 block owner.0 out (record l { known = v })) (sym is) (so.place out l p r.names ty place r.so_far shown);
}
