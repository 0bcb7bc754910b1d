-- What a used name was met as is what it means by the rules: lemmas.
use Rattle.std.proofs.Common.{◌≡◌, ℕ, Bool, List, [], ◌∷◌, Option, Some, None, refl, ap, sym, ◌∙◌, subst}
use Rattle.pc_types.specs.Shapes.{Typed}
use Rattle.pc_names.specs.declared.bound.Bound.{Bound}
use Rattle.pc_names.specs.declared.bound.Bound.TheVariants as bound
use Rattle.pc_names.specs.declared.id.DeclarationId.{DeclarationId}
use Rattle.pc_names.specs.Standing.{meant, StandsFor}
use Rattle.pc_names.specs.Table.{Table, found_named}
use Rattle.pc_names.specs.Finding.{FindsAs, FindsAlong}
use Rattle.pc_names.specs.FindingLaws.{FindsAlong-find}
use Rattle.pc_rules.specs.Meanings as rules
use Rattle.pc_rules.specs.Meanings.{Meaning, Found, Local, Outside, entry_of, find, field_or, with_signature}
use Rattle.pc_rules.specs.RequiredMeanings.{required_or_missing}
use Rattle.pc_facts.specs.Known.{Known}
use Rattle.pc_sightings.specs.declared.met.Met.{Met}
use Rattle.pc_sightings.specs.declared.met.Met.TheVariants as met
use Rattle.pc_sightings.specs.OpenedLaws.{find-fields}
use Rattle.pc_sightings.specs.Meeting.{ShowsMet, MeetsOutermost, MeetsBound, MeetsField, Meets}

outermost-shows : (S : ℕ → Meaning → Type 0) (k : Known) (n : List ℕ) (m : Met) (f : Found) → MeetsOutermost n m → f ≡ required_or_missing n → ShowsMet S k n m f
outermost-shows S k n (met.Required b) f is means = subst (ShowsMet S k n (met.Required b)) (sym (means ∙ is.0)) is.1
outermost-shows S k n met.Missing f is means = subst (ShowsMet S k n met.Missing) (sym (means ∙ is)) tt
outermost-shows S k n (met.Here d i) f is means = absurd is
outermost-shows S k n (met.Later c) f is means = absurd is
outermost-shows S k n (met.Component o p) f is means = absurd is

bound-shows : (S : ℕ → Meaning → Type 0) (k : Known) (n : List ℕ) (m : Met) (b : Bound) (f : Found) → MeetsBound k.names n m b → FindsAs S (required_or_missing n) b f → ShowsMet S k n m f
bound-shows S k n m bound.Unbound f is finds = outermost-shows S k n m f is finds
bound-shows S k n (met.Here d i) (bound.Here e) (rules.Here m) is finds = (subst (λ (x : DeclarationId). S x.0 m) (sym is.0) finds, is.1)
bound-shows S k n (met.Here d i) (bound.Here e) f is finds = absurd finds
bound-shows S k n m (bound.Here e) f is finds = absurd is
bound-shows S k n (met.Later c) (bound.Later e) (rules.Later x) is finds = ap meant is ∙ finds
bound-shows S k n (met.Later c) (bound.Later e) f is finds = absurd finds
bound-shows S k n m (bound.Later e) f is finds = absurd is

field-shows : (S : ℕ → Meaning → Type 0) (k : Known) (n : List ℕ) (m : Met) (x : Typed × Bool) → MeetsField k.table m x → ShowsMet S k n m (rules.Component x.0 x.1)
field-shows S k n (met.Component o p) x is = is
field-shows S k n (met.Here d i) x is = absurd is
field-shows S k n (met.Later c) x is = absurd is
field-shows S k n (met.Required b) x is = absurd is
field-shows S k n met.Missing x is = absurd is

-- what was met is what the rules find, whatever a declaration shows, if the table finds what the name means but for the fields
pub ShowsMet-Meets : (S : ℕ → Meaning → Type 0) (k : Known) (n : List ℕ) (m : Met) (e : Option (Typed × Bool)) (b : Bound) (f : Found) → Meets k n m e b → FindsAs S (required_or_missing n) b f →
    ShowsMet S k n m (field_or e f)
ShowsMet-Meets S k n m (Some x) b f is finds = field-shows S k n m x is
ShowsMet-Meets S k n m None b f is finds = bound-shows S k n m b f is finds

-- the same for what the table finds along the blocks
pub ShowsMet-along : (S : ℕ → Meaning → Type 0) (k : Known) (t : Table) (blocks : List ℕ) (means : List ℕ → Found) (n : List ℕ) (m : Met) (e : Option (Typed × Bool)) →
    FindsAlong S required_or_missing t blocks means → Meets k n m e (found_named t blocks n) → ShowsMet S k n m (field_or e (means n))
ShowsMet-along S k t blocks means n m e along is = ShowsMet-Meets S k n m e (found_named t blocks n) (means n) is (along n)

-- the same at a place, where the table finds what names mean but for the fields of the withs around
pub ShowsMet-find : (S : ℕ → Meaning → Type 0) (k : Known) (t : Table) (blocks : List ℕ) (out : Outside) (l : Local) (n : List ℕ) (m : Met) →
    FindsAlong S required_or_missing t blocks (find out (record l { fields = [] })) → Meets k n m (entry_of l.fields n) (found_named t blocks n) → ShowsMet S k n m (find out l n)
ShowsMet-find S k t blocks out l n m along is =
    subst (ShowsMet S k n m) (sym (find-fields out l n)) (ShowsMet-along S k t blocks (find out (record l { fields = [] })) n m (entry_of l.fields n) along is)

-- the same from the blocks around to a block that stands for the place
pub ShowsMet-block : (D S : ℕ → Meaning → Type 0) (k : Known) (t : Table) (block : ℕ) (blocks : List ℕ) (out : Outside) (l : Local) (n : List ℕ) (m : Met) →
    ((q : List ℕ) (d : ℕ) (x : Meaning) → D d x → S d (with_signature out q x)) → StandsFor D t block l → FindsAlong S required_or_missing t blocks out.means →
    Meets k n m (entry_of l.fields n) (found_named t (block ∷ blocks) n) → ShowsMet S k n m (find out l n)
ShowsMet-block D S k t block blocks out l n m shows stands along is =
    ShowsMet-find S k t (block ∷ blocks) out l n m (FindsAlong-find D S required_or_missing t block blocks out (record l { fields = [] }) shows stands along refl) is
