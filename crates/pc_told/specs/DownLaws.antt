-- The way down to an expression: lemmas.
use Rattle.std.specs.Prelude.{◌≡◌, ◌+◌, ◌-◌, ◌<◌, ◌∷◌, ◌++◌, [], ℕ, Bool, true, false, if◌then◌else◌, List, Option, Some, None, length, take}
use Rattle.std.specs.Option.{option_map_or}
use Rattle.std.proofs.Common.{refl, ap, sym, ◌∙◌, subst, arith}
use Rattle.std.proofs.lemmas.List.{length-take}
use Rattle.pc_syntax.specs.Parts.{kid_at}
use Rattle.pc_syntax.specs.Plain.{Forest, Plain, kids_of}
use Rattle.pc_syntax.specs.declared.kind.Kind.{Kind}
use Rattle.pc_syntax.specs.declared.kind.Kind.TheVariants as kind
use Rattle.pc_types.specs.Rows.{seen}
use Rattle.pc_types.specs.Shapes.{Typed}
use Rattle.pc_types.specs.declared.operand.Operand.{Operand}
use Rattle.pc_rules.specs.Attributes.{Attributes, first}
use Rattle.pc_rules.specs.Decorated.{decorate}
use Rattle.pc_rules.specs.Meanings.{Found, Local, Outside}
use Rattle.pc_rules.specs.Places.{inner}
use Rattle.pc_environment.specs.Decorating.{attributes_at}
use Rattle.pc_environment.specs.Sight.{sight_of}
use Rattle.pc_bodies.specs.declared.body.Body.{Body}
use Rattle.pc_bodies.specs.declared.body.Going.{Going}
use Rattle.pc_statements.specs.OpeningLaws.{closed_place, at-closed, sees-closed}
use Rattle.pc_decl.specs.Nodes.{is_expression}
use Rattle.pc_told.specs.Contexts.{ShowsWanted}
use Rattle.pc_told.specs.PartLaws.{part-body}
use Rattle.pc_told.specs.Parts.{is_part}
use Rattle.pc_told.specs.Tells.{StandsAt, ToldMore, TellsNode, TellsDown}
use Rattle.pc_told.specs.TellsLaws.{kids_context, context-below}
use Rattle.pc_told.specs.Told.{Above, inside, first_found, role_of, told_here, told_among, told_at, told_down, kid_place}
use Rattle.pc_told.specs.ToldLaws.{kid-after, told-none}
use Rattle.pc_told.specs.declared.roles.Context.{Context}
use Rattle.pc_told.specs.declared.roles.Wanted.{Wanted}

inner-closed : (l : Local) (k : Kind) (ks : Forest) → is_part k ≡ true → inner (closed_place l) k ks ≡ inner l k ks
inner-closed l kind.Ref ks e = refl
inner-closed l kind.Index ks e = refl
inner-closed l kind.Select ks e = refl
inner-closed l kind.Deref ks e = refl
inner-closed l kind.Number ks e = refl
inner-closed l kind.Text ks e = refl
inner-closed l kind.Nil ks e = refl
inner-closed l kind.Call ks e = refl
inner-closed l kind.Parens ks e = refl
inner-closed l kind.Not ks e = refl
inner-closed l kind.Setcon ks e = refl
inner-closed l kind.Mul ks e = refl
inner-closed l kind.Add ks e = refl
inner-closed l kind.Sign ks e = refl
inner-closed l kind.Rel ks e = refl
inner-closed l kind.Width ks e = refl
inner-closed l kind.Span ks e = refl
inner-closed l kind.Name ks e = refl
inner-closed l kind.Exprs ks e = refl
inner-closed l kind.Members ks e = refl
inner-closed l (kind.Hole s) ks e = refl
inner-closed l k ks e = cc

-- what is told of an expression doesn't depend on whether it stands among accesses that open records
told-closed : (out : Outside) (l : Local) (h : Above) (f : Found) (t : Plain) → is_part t.kind ≡ true → told_at out (closed_place l) h f t ≡ told_at out l h f t
told-closed out l h f t part =
    let below : Local → List (Option Typed) = λ q. told_among out q (inside h f t.kind) (first (decorate out q t.kids)).found t.kids in
    ap (λ (a : Attributes). told_here (role_of h l.kid) t.kind a ++ below (inner (closed_place l) t.kind t.kids)) (at-closed out l t (part-body t.kind part))
    ∙ ap (λ (q : Local). told_here (role_of h l.kid) t.kind (attributes_at out l t) ++ below q) (inner-closed l t.kind t.kids part)

-- ---- at the end of the way

-- an expression
pub down-end : (b : Body) (old new : Going) (before after : List (Option Operand)) (c : Context) (w : Wanted) (index : ℕ) (t : Plain) → is_part t.kind ≡ true → is_expression t.kind ≡ true →
    TellsNode b old new before after c w index t → TellsDown b old before after c w index t []
down-end b old new before after c w index t part is node = λ out l h f stands context wants kid.
    let table = seen b.types.now in
    let one = node.told out (closed_place l) (sight_of out l) h f (sees-closed out l (sight_of out l) refl) stands context wants (kid is) in
    subst (λ (y : Bool). ToldMore table before after (if y then told_at out l h f t else [])) (sym is) (subst (ToldMore table before after) (told-closed out l h f t part) one)

-- any other node
pub down-nothing : (b : Body) (old : Going) (before : List (Option Operand)) (c : Context) (w : Wanted) (index : ℕ) (t : Plain) → is_expression t.kind ≡ false → TellsDown b old before before c w index t []
down-nothing b old before c w index t isnt = λ out l h f stands context wants kid.
    subst (λ (y : Bool). ToldMore (seen b.types.now) before before (if y then told_at out l h f t else [])) (sym isnt) (told-none (seen b.types.now) before)

-- ---- one step of it

-- no such kid
pub down-missing : (b : Body) (old : Going) (before : List (Option Operand)) (c : Context) (w : Wanted) (index number : ℕ) (t : Plain) (way : List ℕ) → kid_at t number ≡ None →
    TellsDown b old before before c w index t (number ∷ way)
down-missing b old before c w index number t way missing = λ out l h f stands context wants kid.
    subst (λ (o : Option Plain). ToldMore (seen b.types.now) before before (option_map_or (λ (k : Plain). told_down way out (kid_place out l t (number - 1)) (inside h f t.kind) (first_found out l t.kind t.kids) k) o []))
    (sym missing) (told-none (seen b.types.now) before)

-- which kid the kid of a node is that has this many before it
kid-number : (out : Outside) (l : Local) (t : Plain) (i : ℕ) → i < length (kids_of t) → (kid_place out l t i).kid ≡ i + 1
kid-number out l t i within =
    let e = kid-after out (inner l t.kind t.kids) (take i (kids_of t)) in
    let n : length (take i (kids_of t)) ≡ i = simp length-take (omega arith) in
    omega (arith, e, n)

-- a kid of a node that was gone down from
pub down-step : (b : Body) (g0 g1 : Going) (before after : List (Option Operand)) (c : Context) (w own : Wanted) (index number : ℕ) (t k : Plain) (way : List ℕ) → kid_at t number ≡ Some k →
    number - 1 < length (kids_of t) → ((out : Outside) (l : Local) → StandsAt b g0 out l → ShowsWanted b.signatures.now own t.kind (first_found out l t.kind t.kids)) →
    ((out : Outside) (l : Local) → StandsAt b g0 out l → StandsAt b g1 out (kid_place out l t (number - 1))) → TellsDown b g1 before after (kids_context c w t) own (number - 1) k way →
    TellsDown b g0 before after c w index t (number ∷ way)
down-step b g0 g1 before after c w own index number t k way there within wanted opens down = λ out l h f stands context wants kid.
    let l2 = kid_place out l t (number - 1) in
    let found = first_found out l t.kind t.kids in
    let below = down out l2 (inside h f t.kind) found (opens out l stands) (context-below b c w h f t context wants) (wanted out l stands) (λ is. kid-number out l t (number - 1) within) in
    subst (λ (o : Option Plain). ToldMore (seen b.types.now) before after (option_map_or (λ (q : Plain). told_down way out l2 (inside h f t.kind) found q) o [])) (sym there) below
