-- A name of a block is told again: the tables stand for the place where that counts.
use Rattle.std.proofs.Common.{◌≡◌, ℕ, Bool, false, List, [], ◌∷◌, ◌++◌, length, slice_get, Option, Some, refl, ap, sym, ◌∙◌, subst, if◌then◌else◌}
use Rattle.std.proofs.lemmas.Slice.Eq.{bytes_eq-Decides}
use Rattle.std.specs.Str.{bytes_eq}
use Rattle.pc_names.specs.Bindings.{slot_in, retold}
use Rattle.pc_names.specs.Numbers.{number_of}
use Rattle.pc_names.specs.Standing.{IsKnown, Has, StandsFor}
use Rattle.pc_names.specs.StandingChanges.{StandsFor-more}
use Rattle.pc_names.specs.StandingLaws.{StandsFor-Rebinds}
use Rattle.pc_names.specs.Table.{Table, Rebinds, slot_at}
use Rattle.pc_names.specs.declared.id.DeclarationId.{DeclarationId}
use Rattle.pc_rules.specs.Meanings.{Meaning, Local, Outside, entry_of}
use Rattle.pc_facts.specs.declared.sighting.Declared.{Declared}
use Rattle.pc_places.specs.MovesLaws.{IsPlace-own}
use Rattle.pc_places.specs.Places.{known, IsPlace, IsNamed, Rebound}
use Rattle.pc_places.specs.ReboundLaws.{Moves-rebound}
use Rattle.pc_places.specs.SceneLaws.{Declares-grows, ShowsUnsigned-grows}
use Rattle.pc_places.specs.Scenes.{Declares, ShowsUnsigned}
use Rattle.pc_places.specs.declared.tables.Tables.{Tables}

-- the declaration of the name is this one from now on
abbrev pub telling : Local → List ℕ → Meaning → Local
telling l n m = record l { known = (n, m) ∷ l.known }

told-here : (n : List ℕ) (m : Meaning) (ms : List (List ℕ × Meaning)) → entry_of ((n, m) ∷ ms) n ≡ Some m
told-here n m ms = ap (λ (b : Bool). if b then Some m else entry_of ms n) ((bytes_eq-Decides n n).1 refl)

told-apart : (n q : List ℕ) (m : Meaning) (ms : List (List ℕ × Meaning)) → bytes_eq n q ≡ false → entry_of ((n, m) ∷ ms) q ≡ entry_of ms q
told-apart n q m ms apart = ap (λ (b : Bool). if b then Some m else entry_of ms q) apart

-- a block that stood for a place stands for the one where the name is told again
pub StandsFor-telling : (D : ℕ → Meaning → Type 0) (old new : Table) (block name : ℕ) (l : Local) (n : List ℕ) (d : DeclarationId) (m : Meaning) → D d.0 m →
    Rebinds old new block name (retold (slot_in old.slots block name) d) → number_of old.texts n ≡ Some name → StandsFor D old block l → StandsFor D new block (telling l n m)
StandsFor-telling D old new block name l n d m is_declared changes is stands =
    let at : Has D (slot_in old.slots block name) l n = subst (λ (o : Option ℕ). Has D (slot_at old.slots block o) l n) is (stands n) in
    StandsFor-Rebinds D old new block name (retold (slot_in old.slots block name) d) l (telling l n m) n changes is
    (record { is_class = at.is_class; is_passed = at.is_passed; is_known = subst (IsKnown D (Some d)) (sym (told-here n m l.known)) is_declared })
    (λ o q apart h. record { is_class = h.is_class; is_passed = h.is_passed; is_known = subst (IsKnown D o.known) (sym (told-apart n q m l.known apart)) h.is_known })
    stands

last-one : {X : Type 0} (xs : List X) (x : X) → slice_get (xs ++ x ∷ []) (length xs) ≡ Some x
last-one [] x = refl
last-one (y ∷ ys) x = last-one ys x

-- the tables stand for the place where the name is told again by a declaration that was added
pub IsPlace-telling : (block name owner : ℕ) (d : DeclarationId) (x : Declared) (old new : Tables) (out : Outside) (l : Local) (n : List ℕ) (m : Meaning) →
    Rebound block name (retold (slot_in old.names.slots block name) d) (x ∷ []) old new → d.0 ≡ length old.declarations.items → number_of old.names.texts n ≡ Some name → Declares (known old) n x m →
    (IsNamed old.names old.declarations.items → IsNamed new.names new.declarations.items) → IsPlace old block owner out l → IsPlace new block owner out (telling l n m)
IsPlace-telling block name owner d x old new out l n m h last number shows named at =
    let slot = retold (slot_in old.names.slots block name) d in
    let moves = Moves-rebound block name slot (x ∷ []) old new h named in
    let S = ShowsUnsigned (known old) old.declarations.items in
    let T = ShowsUnsigned (known new) new.declarations.items in
    let own = StandsFor-more S T old.names block l (λ e q. ShowsUnsigned-grows (known old) (known new) old.declarations.items new.declarations.items e q moves.grows moves.declarations) at.own in
    let added : T d.0 m = record {
      declared = x;
      is = ap (slice_get new.declarations.items) last ∙ ap (λ (ds : List Declared). slice_get ds (length old.declarations.items)) h.declarations ∙ last-one old.declarations.items x;
      name = n;
      shows = Declares-grows (known old) (known new) n x m moves.grows shows;
    } in
    IsPlace-own old new block owner out l (telling l n m) moves refl refl (StandsFor-telling T old.names new.names block name l n d m added h.names number own) at
