-- What the table finds is what a name means by the rules: lemmas.
use Rattle.std.proofs.Common.{◌≡◌, ℕ, ◌<◌, Bool, true, false, List, [], ◌∷◌, Option, Some, None, refl, ap, sym, subst, if◌then◌else◌}
use Rattle.std.specs.Option.{option_map}
use Rattle.pc_rules.specs.Meanings as rules
use Rattle.pc_rules.specs.Meanings.{Class, Meaning, Found, Local, Outside, entry_of, find, field_or, known_or, is_routine_class, with_signature}
use Rattle.pc_names.specs.declared.id.DeclarationId.{DeclarationId}
use Rattle.pc_names.specs.declared.name_class.NameClass.{NameClass}
use Rattle.pc_names.specs.declared.bound.Bound.{Bound}
use Rattle.pc_names.specs.Bindings.{here_or, later_or}
use Rattle.pc_names.specs.Chains.{AreBelow}
use Rattle.pc_names.specs.Table.{Table, slot_named, found_named}
use Rattle.pc_names.specs.TableLaws.{found_named-kept}
use Rattle.pc_names.specs.Standing.{meant, IsKnown, StandsFor}
use Rattle.pc_names.specs.Finding.{FindsAs, FindsAlong, ShowsBut}

finds-by : (D S : ℕ → Meaning → Type 0) (out : Outside) (n : List ℕ) (none : Found) → ((d : ℕ) (m : Meaning) → D d m → S d (with_signature out n m)) →
    (k : Option DeclarationId) (c : Option NameClass) (x : Bound) (o : Option Meaning) (p : Option Class) (f : Found) → IsKnown D k o → option_map meant c ≡ p →
    FindsAs S none x f → FindsAs S none (here_or k (later_or c x)) (known_or out n o (rules.later_or p f))
finds-by D S out n none shows (Some d) c x (Some m) p f known class along = shows d.0 m known
finds-by D S out n none shows (Some d) c x None p f known class along = absurd known
finds-by D S out n none shows None c x (Some m) p f known class along = absurd known
finds-by D S out n none shows None (Some c) x None (Some k) f known class along = cc
finds-by D S out n none shows None (Some c) x None None f known class along = cc
finds-by D S out n none shows None None x None (Some k) f known class along = cc
finds-by D S out n none shows None None x None None f known class along = along

-- at a place for which the block stands, a name that is no field of a with's record is found as it is meant, if the blocks around find
-- what names mean outside
pub FindsAs-find : (D S : ℕ → Meaning → Type 0) (outermost : List ℕ → Found) (t : Table) (block : ℕ) (blocks : List ℕ) (out : Outside) (l : Local) →
    ((n : List ℕ) (d : ℕ) (m : Meaning) → D d m → S d (with_signature out n m)) → StandsFor D t block l → FindsAlong S outermost t blocks out.means →
    (n : List ℕ) → entry_of l.fields n ≡ None → FindsAs S (outermost n) (found_named t (block ∷ blocks) n) (find out l n)
unfolding find
FindsAs-find D S outermost t block blocks out l shows stands along n no_field =
    subst (λ (f : Option (_ × Bool)). FindsAs S (outermost n) (found_named t (block ∷ blocks) n) (field_or f (known_or out n (entry_of l.known n) (rules.later_or (entry_of l.names n) (out.means n))))) (sym no_field)
    (finds-by D S out n (outermost n) (shows n) (slot_named t block n).known (slot_named t block n).class (found_named t blocks n) (entry_of l.known n) (entry_of l.names n) (out.means n)
    (stands n).is_known (stands n).is_class (along n))

-- the same of every name, where no with stands around
pub FindsAlong-find : (D S : ℕ → Meaning → Type 0) (outermost : List ℕ → Found) (t : Table) (block : ℕ) (blocks : List ℕ) (out : Outside) (l : Local) →
    ((n : List ℕ) (d : ℕ) (m : Meaning) → D d m → S d (with_signature out n m)) → StandsFor D t block l → FindsAlong S outermost t blocks out.means → l.fields ≡ [] →
    FindsAlong S outermost t (block ∷ blocks) (find out l)
FindsAlong-find D S outermost t block blocks out l shows stands along no_fields = λ n.
    FindsAs-find D S outermost t block blocks out l shows stands along n (ap (λ (fs : List (List ℕ × _)). entry_of fs n) no_fields)

-- outside of all blocks, names mean what the outermost function says
pub FindsAlong-outermost : (S : ℕ → Meaning → Type 0) (outermost : List ℕ → Found) (t : Table) → FindsAlong S outermost t [] outermost
FindsAlong-outermost S outermost t = λ n. refl

-- the blocks around find what they found, where they have what they had
pub FindsAlong-kept : (S : ℕ → Meaning → Type 0) (outermost : List ℕ → Found) (old new : Table) (block : ℕ) (blocks : List ℕ) (means : List ℕ → Found) → AreBelow block blocks →
    ((b : ℕ) → b < block → (q : List ℕ) → slot_named new b q ≡ slot_named old b q) → FindsAlong S outermost old blocks means → FindsAlong S outermost new blocks means
FindsAlong-kept S outermost old new block blocks means below kept along = λ n.
    subst (λ (b : Bound). FindsAs S (outermost n) b (means n)) (sym (found_named-kept old new block blocks below kept n)) (along n)

shows-by : (D : ℕ → Meaning → Type 0) (out : Outside) (n : List ℕ) (d : ℕ) (m : Meaning) (b : Bool) → D d m → ShowsBut D d (if b then record m { signature = out.heading n } else m)
shows-by D out n d m true is = (m, is, refl)
shows-by D out n d m false is = (m, is, refl)

-- a declaration shows what it has but for the parameters and the result of a routine
pub ShowsBut-with_signature : (D : ℕ → Meaning → Type 0) (out : Outside) (n : List ℕ) (d : ℕ) (m : Meaning) → D d m → ShowsBut D d (with_signature out n m)
ShowsBut-with_signature D out n d m is = shows-by D out n d m (is_routine_class m.class) is
