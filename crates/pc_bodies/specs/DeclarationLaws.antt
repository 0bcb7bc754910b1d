-- What declarations show, they show where more is numbered.
use Rattle.std.specs.Prelude.{◌≡◌, ℕ, List, [], ◌∷◌, Option, Some, None, slice_get}
use Rattle.std.proofs.Common.{sym, subst}
use Rattle.pc_types.specs.Shapes.{Owner}
use Rattle.pc_names.specs.Finding.{FindsAs}
use Rattle.pc_names.specs.declared.bound.Bound.{Bound}
use Rattle.pc_names.specs.declared.bound.Bound.TheVariants as bound
use Rattle.pc_rules.specs.Meanings as rules
use Rattle.pc_rules.specs.Meanings.{Meaning, Found}
use Rattle.pc_access_rules.specs.Selves.{ShowsSelf}
use Rattle.pc_facts.specs.Known.{Known}
use Rattle.pc_facts.specs.declared.sighting.Declared.{Declared}
use Rattle.pc_facts.specs.declared.sighting.Variable.{Variable}
use Rattle.pc_growth.specs.Grows.{Grows}
use Rattle.pc_growth.specs.GrowsLaws.{ShowsMeaning-grows, ShowsVariable-grows}
use Rattle.pc_bodies.specs.Resolved.{ShowsDeclaration}

-- what the table finds is what the rules find by a relation that follows from the first
pub FindsAs-with : (S T : ℕ → Meaning → Type 0) → ((d : ℕ) (m : Meaning) → S d m → T d m) → (o : Found) (b : Bound) (f : Found) → FindsAs S o b f → FindsAs T o b f
FindsAs-with S T h o bound.Unbound f e = e
FindsAs-with S T h o (bound.Here d) (rules.Here m) e = h d.0 m e
FindsAs-with S T h o (bound.Here d) f e = absurd e
FindsAs-with S T h o (bound.Later c) (rules.Later x) e = e
FindsAs-with S T h o (bound.Later c) f e = absurd e

pub ShowsDeclaration-grows : (a c : Known) (ds : List Declared) (d : ℕ) (m : Meaning) → Grows a c → a.names ≡ c.names → ShowsDeclaration a ds d m → ShowsDeclaration c ds d m
ShowsDeclaration-grows a c ds d m g same h =
    (h.0, h.1, λ i n e. ShowsMeaning-grows a c n (record h.0 { name = i }) m g (h.2 i n (subst (λ (ns : List (List ℕ)). slice_get ns i.0 ≡ Some n) (sym same) e)))

pub ShowsSelf-grows : (a c : Known) (v : Option Variable) (w : Option (Owner × List ℕ)) → Grows a c → ShowsSelf a v w → ShowsSelf c v w
ShowsSelf-grows a c None None g h = tt
ShowsSelf-grows a c (Some v) (Some w) g h = ShowsVariable-grows a c (Some v) (w ∷ []) g h
ShowsSelf-grows a c None (Some w) g h = absurd h
ShowsSelf-grows a c (Some v) None g h = absurd h
