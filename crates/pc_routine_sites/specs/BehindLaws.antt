-- Where the node behind a routine stands: lemmas.
use Rattle.std.proofs.Common.{◌≡◌, ℕ, Bool, true, false, if◌then◌else◌, List, [], ◌∷◌, ◌++◌, refl, ap, sym, ◌∙◌}
use Rattle.pc_syntax.specs.Plain.{Forest, Nil, Cons, Plain}
use Rattle.pc_syntax.specs.declared.kind.Kind.{Kind}
use Rattle.pc_syntax.specs.declared.kind.Kind.TheVariants as kind
use Rattle.pc_scope.specs.Headings.{is_routine_kind}
use Rattle.pc_rules.specs.Attributes.{Attributes, Marked, first}
use Rattle.pc_rules.specs.Decorated.{Seen, seen, rule, decorate}
use Rattle.pc_rules.specs.Meanings.{Meaning, Local, Outside, define, define_all}
use Rattle.pc_rules.specs.OwnBlock.{own, bare_heading}
use Rattle.pc_rules.specs.Places.{behind, beside}
use Rattle.pc_rules.specs.Routines.{Routine, bare}
use Rattle.pc_environment.specs.Decorating.{attributes_at, below_at, place_behind}
use Rattle.pc_environment.specs.DecoratingLaws.{at-node}
use Rattle.pc_places.specs.Places.{IsPlace}
use Rattle.pc_places.specs.PlacesLaws.{IsPlace-alike}
use Rattle.pc_places.specs.declared.tables.Tables.{Tables}
use Rattle.pc_routines.specs.Bare.{bare_routine}
use Rattle.pc_routine_sites.specs.Sites.{behind_routine}

-- ---- a routine in the own block around it

own-routine : (k : Kind) (w : List ℕ) (ns : List (List ℕ)) (ks : Forest) → is_routine_kind k ≡ true → own (Cons k w ns ks Nil) ≡ Cons k w ns (bare_heading ks) Nil
unfolding own
own-routine k w ns ks r = ap (λ (b : Bool). Cons k w ns (if b then bare_heading ks else own ks) Nil) r

-- where the node behind it stands
pub behind-is : (around : Routine) (l : Local) (node : Plain) → is_routine_kind node.kind ≡ true → behind_routine around l node ≡ place_behind (bare around.means) l (bare_routine node)
behind-is around l node r = ap (λ (f : Forest). beside l node.kind (first (decorate (bare around.means) l f))) (own-routine node.kind node.word node.notes node.kids r)

-- ---- no record is opened there

opens-by : (l : Local) (k : Kind) (w : List ℕ) (s : Seen) (m : Marked) → is_routine_kind k ≡ true → (rule l k w s m).opens ≡ []
unfolding rule
opens-by l kind.Procedure w s m r = refl
opens-by l kind.Function w s m r = refl
opens-by l kind.Funbody w s m r = refl
opens-by l k w s m r = cc

opens-none : (out : Outside) (l : Local) (node : Plain) → is_routine_kind node.kind ≡ true → (attributes_at out l (bare_routine node)).opens ≡ []
opens-none out l node r =
    let t = bare_routine node in
    ap (λ (a : Attributes). a.opens) (at-node out l t) ∙ opens-by l t.kind t.word (seen out l t.kind t.word) (below_at out l t) r

define_all-fields : (l : Local) (ds : List (List ℕ × Meaning)) → (define_all l ds).fields ≡ l.fields
define_all-fields l [] = refl
define_all-fields l (d ∷ ds) = define_all-fields (define l d.0 d.1) ds

behind-fields : (l : Local) (k : Kind) (a : Attributes) → is_routine_kind k ≡ true → (behind l k a).fields ≡ l.fields
behind-fields l kind.Procedure a r = define_all-fields l a.defines
behind-fields l kind.Function a r = define_all-fields l a.defines
behind-fields l kind.Funbody a r = define_all-fields l a.defines
behind-fields l k a r = cc

nothing-opened : {X : Type 0} (b : Bool) (xs ys : List X) → xs ≡ [] → (if b then xs ++ ys else ys) ≡ ys
nothing-opened true xs ys e = ap (λ zs. zs ++ ys) e
nothing-opened false xs ys e = refl

-- the tables stand for the place behind it
pub IsPlace-next : (t : Tables) (block owner : ℕ) (out : Outside) (l : Local) (node : Plain) → is_routine_kind node.kind ≡ true →
    IsPlace t block owner out (behind l node.kind (attributes_at out l (bare_routine node))) → IsPlace t block owner out (place_behind out l (bare_routine node))
IsPlace-next t block owner out l node r h =
    let a = attributes_at out l (bare_routine node) in
    IsPlace-alike t block owner out (behind l node.kind a) (beside l node.kind a)
    (nothing-opened l.opening a.opens l.fields (opens-none out l node r) ∙ sym (behind-fields l node.kind a r)) refl (λ n. refl) (λ n. refl) (λ n. refl) h
