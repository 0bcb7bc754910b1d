-- What is found at a routine in the block around it, and what the tables say where its own block begins (ISO 7185, 6.2.2, 6.6.1, 6.6.2).
use Rattle.std.specs.Prelude.{◌≡◌, ◌<◌, ◌&&◌, ℕ, true, false, List, [], ◌∷◌, ◌++◌, Option, length, get_or}
use Rattle.pc_syntax.specs.Plain.{Plain}
use Rattle.pc_syntax.specs.WellFormed.{IsProper}
use Rattle.pc_types.specs.Sameness.{same_owner}
use Rattle.pc_types.specs.Shapes.{Owner}
use Rattle.pc_types.specs.Table.{nobody}
use Rattle.pc_scope.specs.Headings.{heading_of, has_later}
use Rattle.pc_names.specs.Chains.{chain_of}
use Rattle.pc_names.specs.Finding.{FindsAlong}
use Rattle.pc_names.specs.Numbers.{AreDistinct}
use Rattle.pc_rules.specs.Declarations.{heading_here, rest_of}
use Rattle.pc_rules.specs.Errors.{is_program}
use Rattle.pc_rules.specs.Headings.{heading_entries}
use Rattle.pc_rules.specs.Meanings.{Local}
use Rattle.pc_rules.specs.Outsides.{signature_named, outside_of}
use Rattle.pc_rules.specs.RequiredMeanings.{required_or_missing}
use Rattle.pc_rules.specs.RoutineList.{Forwarded, key_of, forwarded_by, routines_of}
use Rattle.pc_rules.specs.Routines.{Routine, bare, parameters_of, self_of}
use Rattle.pc_environment.specs.Decorating.{attributes_at}
use Rattle.pc_needs.specs.Unaffected.{IsOneOf}
use Rattle.pc_program_laws.specs.Routines.{behind_first, routine_here}
use Rattle.pc_sightings.specs.TouchedLog.{AreApart}
use Rattle.pc_access_rules.specs.Selves.{ShowsSelf}
use Rattle.pc_places.specs.Parameters.{ShowsParameters, AreNamed, HaveNames}
use Rattle.pc_places.specs.Places.{known, IsPlace, IsNamed}
use Rattle.pc_places.specs.Scenes.{ShowsUnsigned}
use Rattle.pc_places.specs.declared.tables.Tables.{Tables}
use Rattle.pc_routines.specs.Bare.{bare_routine}
use Rattle.pc_routines.specs.Heads.{ShowsHead}
use Rattle.pc_routines.specs.Waits.{Waits}
use Rattle.pc_routines.specs.declared.forward.Forward.{Forward}
use Rattle.pc_routines.specs.declared.head.RoutineHead.{RoutineHead}
use Rattle.pc_standing.specs.Signed.{IsSigned, OwnsRoutines}
use Rattle.pc_routine_sites.specs.declared.site.RoutineSite.{RoutineSite}
use Rattle.pc_routine_sites.specs.declared.site.RoutineFound.{RoutineFound}

-- each owner is that of one of these routines
abbrev pub OwnersAmong : List Owner → List Routine → Type 0
OwnersAmong owners rs = (i : ℕ) → i < length owners → (q : Routine) × IsOneOf rs q × (get_or owners i nobody ≡ q.owner)

-- none of these routines is the owner that this one is
abbrev pub FreshOwner : List Routine → Routine → Type 0
FreshOwner rs r = (q : Routine) → IsOneOf rs q → same_owner q.owner r.owner ≡ false

-- what holds of the tables between the routines of a program, the first of which were gone through; the blocks are a block and those around it
pub record Sound (all done : List Routine) (t : Tables) (blocks : List ℕ) : Type 0 where
  pub distinct : AreDistinct t.names.texts
  pub named : IsNamed t.names t.declarations.items
  pub signed : IsSigned t.names (known t) t.declarations.items (signature_named all) blocks
  pub apart : AreApart (known t).table.owners
  pub owners : OwnersAmong (known t).table.owners done

-- what the tables and the site say where the block of a routine begins
pub record StandsAround (all : List Routine) (r : Routine) (t : Tables) (blocks : List ℕ) (site : RoutineSite) : Type 0 where
  pub finds : FindsAlong (ShowsUnsigned (known t) t.declarations.items) required_or_missing t.names blocks (outside_of all r).means
  pub owner_is : get_or (known t).table.owners site.owner.0 nobody ≡ r.owner
  pub there : site.owner.0 < length (known t).table.owners
  pub parameters : ShowsParameters (known t) t.declarations.items site.parameters.items (parameters_of r)
  pub are_named : AreNamed (length t.names.texts) site.parameters.items
  pub have_names : HaveNames t.declarations.items site.parameters.items
  pub self : ShowsSelf (known t) site.own_function (self_of r)
  pub key : site.key ≡ key_of r.owner
  pub place : site.place ≡ r.place
  pub later : site.is_later ≡ r.is_later

-- a routine of a program, behind these and before those, is this node, which stands here in the block of another one, behind these forward
-- routines and in the list with this place; unless it is the later declaration of a routine with a key, its owner is new
pub record IsNext (t : Plain) (around r : Routine) (done beyond : List Routine) (l : Local) (fs : List Forwarded) (list : List ℕ) (node : Plain) : Type 0 where
  pub proper : IsProper t
  pub program : is_program t.kind ≡ true
  pub around_one : IsOneOf (routines_of t) around
  pub order : routines_of t ≡ done ++ r ∷ beyond
  pub is : r ≡ routine_here around.means l fs list (key_of around.owner) node.kind node.word node.notes node.kids
  pub owner : l.owner ≡ around.owner
  pub heading : heading_here l ≡ heading_of node.kind node.kids
  pub owns : OwnsRoutines around.owner l.known
  pub fresh : (r.is_later && r.has_key) ≡ false → FreshOwner done r

-- the tables, the forward routines that wait and the heading of the routine stand for its place
pub record StandsBefore (all : List Routine) (around : Routine) (done : List Routine) (l : Local) (fs : List Forwarded) (block owner : ℕ) (x : RoutineHead) (t : Tables)
    (w : List ((ℕ × ℕ) × Option Forward)) : Type 0 where
  pub place : IsPlace t block owner (bare around.means) l
  pub waits : Waits t w l.waiting fs
  pub head : ShowsHead t.names.texts x (heading_here l)
  pub later : x.has_later ≡ has_later (heading_here l) (rest_of l.ahead)
  pub sound : Sound all done t (chain_of t.names.chains block)

-- where the node behind a routine stands
abbrev pub behind_routine : Routine → Local → Plain → Local
behind_routine around l node = behind_first around.means l node.kind node.word node.notes node.kids

-- what was found at a routine is what the rules find, and the tables stand for the place behind it, and for the one where its block begins
pub record SiteFound (all : List Routine) (around r : Routine) (done : List Routine) (l : Local) (fs : List Forwarded) (block owner : ℕ) (node : Plain) (f : RoutineFound) (t : Tables)
    (w : List ((ℕ × ℕ) × Option Forward)) : Type 0 where
  pub entries : f.entries.items ≡ (attributes_at (outside_of all around) l (bare_routine node)).as_value.entries
  pub heading : f.heading.items ≡ heading_entries r
  pub place : IsPlace t block owner (bare around.means) (behind_routine around l node)
  pub owns : OwnsRoutines around.owner (behind_routine around l node).known
  pub waits : Waits t w (behind_routine around l node).waiting (forwarded_by l r fs)
  pub sound : Sound all (done ++ r ∷ []) t (chain_of t.names.chains block)
  pub stands : StandsAround all r t (chain_of t.names.chains block) f.site
