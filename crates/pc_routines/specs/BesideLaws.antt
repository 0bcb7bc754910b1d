-- Where the node behind a routine stands: lemmas.
use Rattle.std.proofs.Common.{◌≡◌, ℕ, true, List, [], ◌∷◌, refl, ap, if◌then◌else◌}
use Rattle.pc_syntax.specs.Classes.{is_routine}
use Rattle.pc_syntax.specs.declared.kind.Kind.{Kind}
use Rattle.pc_syntax.specs.declared.kind.Kind.TheVariants as kind
use Rattle.pc_scope.specs.Headings.{is_routine_kind, without_pairs}
use Rattle.pc_rules.specs.Attributes.{Attributes}
use Rattle.pc_rules.specs.Declarations.{head_or, rest_of}
use Rattle.pc_rules.specs.Meanings.{Meaning, Local, Outside, define, define_all}
use Rattle.pc_rules.specs.Places.{behind, beside, past_routine}
use Rattle.pc_places.specs.declared.tables.Tables.{Tables}
use Rattle.pc_places.specs.Places.{IsPlace}
use Rattle.pc_places.specs.PlacesLaws.{IsPlace-alike}

-- ---- behind it

-- which forward routines wait and which routines are ahead, no table tells
pub IsPlace-routine : (t : Tables) (block owner : ℕ) (out : Outside) (l : Local) (k : Kind) (a : Attributes) → is_routine_kind k ≡ true → IsPlace t block owner out (define_all l a.defines) →
    IsPlace t block owner out (behind l k a)
IsPlace-routine t block owner out l kind.Procedure a r h = IsPlace-alike t block owner out (define_all l a.defines) (behind l kind.Procedure a) refl refl (λ n. refl) (λ n. refl) (λ n. refl) h
IsPlace-routine t block owner out l kind.Function a r h = IsPlace-alike t block owner out (define_all l a.defines) (behind l kind.Function a) refl refl (λ n. refl) (λ n. refl) (λ n. refl) h
IsPlace-routine t block owner out l kind.Funbody a r h = IsPlace-alike t block owner out (define_all l a.defines) (behind l kind.Funbody a) refl refl (λ n. refl) (λ n. refl) (λ n. refl) h
IsPlace-routine t block owner out l k a r h = cc

define_all-ahead : (l : Local) (ds : List (List ℕ × Meaning)) → (define_all l ds).ahead ≡ l.ahead
define_all-ahead l [] = refl
define_all-ahead l (d ∷ ds) = define_all-ahead (define l d.0 d.1) ds

define_all-waiting : (l : Local) (ds : List (List ℕ × Meaning)) → (define_all l ds).waiting ≡ l.waiting
define_all-waiting l [] = refl
define_all-waiting l (d ∷ ds) = define_all-waiting (define l d.0 d.1) ds

-- the headings ahead where the next routine stands, also behind a hole
pub ahead-beside : (l : Local) (k : Kind) (a : Attributes) → is_routine k ≡ true → (beside l k a).ahead ≡ rest_of l.ahead
ahead-beside l kind.Procedure a r = ap rest_of (define_all-ahead l a.defines)
ahead-beside l kind.Function a r = ap rest_of (define_all-ahead l a.defines)
ahead-beside l kind.Funbody a r = ap rest_of (define_all-ahead l a.defines)
ahead-beside l (kind.Hole s) a r = refl
ahead-beside l k a r = cc

past-waiting : (l : Local) (ds : List (List ℕ × Meaning)) → (past_routine (define_all l ds)).waiting ≡ (past_routine l).waiting
past-waiting l ds = λ i. if (head_or (define_all-ahead l ds i)).is_forward then head_or (define_all-ahead l ds i) ∷ define_all-waiting l ds i else without_pairs (head_or (define_all-ahead l ds i)) (define_all-waiting l ds i)

-- the forward headings that wait there
pub waiting-beside : (l : Local) (k : Kind) (a : Attributes) → is_routine_kind k ≡ true → (beside l k a).waiting ≡ (past_routine l).waiting
waiting-beside l kind.Procedure a r = past-waiting l a.defines
waiting-beside l kind.Function a r = past-waiting l a.defines
waiting-beside l kind.Funbody a r = past-waiting l a.defines
waiting-beside l k a r = cc
