-- Variables are told again, with their type: laws.
use Rattle.std.specs.Prelude.{◌≡◌, ◌<◌, ◌+◌, ℕ, zero, suc, List, [], ◌∷◌, ◌++◌, Option, Some, None, length, slice_get, get_or}
use Rattle.std.proofs.Common.{refl, ap, sym, ◌∙◌, subst}
use Rattle.pc_types.specs.Table.{nobody}
use Rattle.pc_types.specs.declared.form.OwnerId.{OwnerId}
use Rattle.pc_types.specs.declared.operand.Operand.{Operand}
use Rattle.pc_names.specs.Numbers.{number_of}
use Rattle.pc_names.specs.declared.id.NameId.{NameId}
use Rattle.pc_names.specs.declared.name_class.NameClass.{NameClass}
use Rattle.pc_names.specs.declared.name_class.NameClass.TheVariants as class
use Rattle.pc_rules.specs.Meanings.{Meaning, Local, Outside}
use Rattle.pc_facts.specs.Known.{Known}
use Rattle.pc_facts.specs.declared.sighting.Value.{Value}
use Rattle.pc_growth.specs.Grows.{Grows}
use Rattle.pc_growth.specs.GrowsLaws.{ShowsType-grows, ShowsValues-grows, get_or-begins, less-begins}
use Rattle.pc_places.specs.MovesLaws.{Moves-same, Moves-then}
use Rattle.pc_places.specs.NumberingLaws.{number_of-begins}
use Rattle.pc_places.specs.Places.{known, IsPlace, Moves}
use Rattle.pc_places.specs.Scenes.{Declares}
use Rattle.pc_places.specs.TellingLaws.{telling}
use Rattle.pc_places.specs.declared.tables.Tables.{Tables}
use Rattle.pc_definitions.specs.DefineLaws.{telling_all, telling_all-end}
use Rattle.pc_definitions.specs.Namings.{ShowsParts}
use Rattle.pc_definitions.specs.NamingLaws.{parts-declare}
use Rattle.pc_definitions.specs.VariableNames.{AreNumbers}
use Rattle.pc_definitions.specs.Variables.{AreNames, TellsVariables}

-- one of some numbers of names is one
pub number-at : (names : ℕ) (is : List NameId) (i : ℕ) (n : NameId) → AreNumbers names is → slice_get is i ≡ Some n → n.0 < names
number-at names [] i n h e = cc
number-at names (j ∷ is) zero n h e = let same : j ≡ n = cc in subst (λ (k : NameId). k.0 < names) same h.0
number-at names (j ∷ is) (suc i) n h e = number-at names is i n h.1 e

-- what a declaration is made of shows what it showed as more is numbered
pub parts-grow : (a b : Known) (c : NameClass) (o : OwnerId) (v : Option Value) (ty : Option Operand) (m : Meaning) → Grows a b → ShowsParts a c o v ty m → ShowsParts b c o v ty m
parts-grow a b c o v ty m g h = record {
  class = h.class;
  owner = get_or-begins a.table.owners b.table.owners o.0 nobody g.owners h.owner_there ∙ h.owner;
  owner_there = less-begins a.table.owners b.table.owners o.0 g.owners h.owner_there;
  value = ShowsValues-grows a b v m.value g h.value;
  type = ShowsType-grows a.table b.table ty m.type g.shapes g.owners h.type;
  bare = h.bare;
}

-- the last of some numbers is that of the last name
pub record EndsAlike (texts : List (List ℕ)) (is : List NameId) (i : NameId) (ns : List (List ℕ)) : Type 0 where
  pub before : List (List ℕ)
  pub last : List ℕ
  pub whole : ns ≡ before ++ last ∷ []
  pub named : AreNames texts is before
  pub number : number_of texts last ≡ Some i.0

none-behind : (texts ns : List (List ℕ)) → AreNames texts [] ns → ns ≡ []
none-behind texts [] h = refl
none-behind texts (n ∷ ns) h = absurd h

pub ends-alike : (texts : List (List ℕ)) (is : List NameId) (i : NameId) (ns : List (List ℕ)) → AreNames texts (is ++ i ∷ []) ns → EndsAlike texts is i ns
ends-alike texts [] i [] h = absurd h
ends-alike texts [] i (n ∷ ns) h = record { before = []; last = n; whole = ap (λ (ms : List (List ℕ)). n ∷ ms) (none-behind texts ns h.1); named = tt; number = h.0 }
ends-alike texts (j ∷ is) i [] h = absurd h
ends-alike texts (j ∷ is) i (n ∷ ns) h =
    let rest = ends-alike texts is i ns h.1 in
    record { before = n ∷ rest.before; last = rest.last; whole = ap (λ (ms : List (List ℕ)). n ∷ ms) rest.whole; named = (h.0, rest.named); number = rest.number }

-- no variables
pub tells-none : (block : ℕ) (o : OwnerId) (ty : Option Operand) (t : Tables) → TellsVariables block o ty [] t t
tells-none block o ty t = record { place = λ own out l ns m names parts place. by own out l m ns names place; moves = Moves-same block t } where
  by : (own : ℕ) (out : Outside) (l : Local) (m : Meaning) (ns : List (List ℕ)) → AreNames t.names.texts [] ns → IsPlace t block own out l → IsPlace t block own out (telling_all l ns m)
  by own out l m [] names place = place
  by own out l m (n ∷ ns) names place = absurd names

-- one more
pub tells-next : (block : ℕ) (o : OwnerId) (ty : Option Operand) (is : List NameId) (i : NameId) (t0 t1 t2 : Tables) → TellsVariables block o ty is t0 t1 →
    ((own : ℕ) (out : Outside) (l : Local) (n : List ℕ) (m : Meaning) → number_of t1.names.texts n ≡ Some i.0 →
    Declares (known t1) n (record { class = class.Variable; owner = o; name = i; value = None; of = ty; signature = None }) m → IsPlace t1 block own out l → IsPlace t2 block own out (telling l n m)) →
    Moves block t1 t2 → TellsVariables block o ty (is ++ i ∷ []) t0 t2
tells-next block o ty is i t0 t1 t2 so step moves = record {
  place = λ own out l ns m names parts place.
      let ends = ends-alike t0.names.texts is i ns names in
      let first = so.place own out l ends.before m ends.named parts place in
      let number = number_of-begins t0.names.texts t1.names.texts ends.last i.0 so.moves.grows.names ends.number in
      let told = step own out (telling_all l ends.before m) ends.last m number
      (parts-declare (known t1) class.Variable o None ty m ends.last i (parts-grow (known t0) (known t1) class.Variable o None ty m so.moves.grows parts) number) first in
      subst (λ (p : Local). IsPlace t2 block own out p) (sym (ap (λ (ms : List (List ℕ)). telling_all l ms m) ends.whole ∙ telling_all-end l ends.before ends.last m)) told;
  moves = Moves-then block t0 t1 t2 so.moves moves;
}
