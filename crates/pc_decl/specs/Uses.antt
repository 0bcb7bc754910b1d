-- Which names are used ones, and which records are open around a place.
use Rattle.std.specs.Prelude.{ℕ, ◌==◌, ◌-◌, if◌then◌else◌, List, [], ◌∷◌, ◌++◌, zero, suc}
use Rattle.std.specs.Option.{option_map_or}
use Rattle.pc_syntax.specs.declared.kind.Kind.{Kind}
use Rattle.pc_syntax.specs.Plain.{Plain, Forest, Nil, Cons, count}
use Rattle.pc_syntax.specs.Parts.{kid_at}
use Rattle.pc_syntax.specs.declared.kind.Kind.TheVariants as kind

-- a name is looked up around its place, or among the fields of the record before it; or it isn't used
pub data Use : Type 0 where
  LookedUp : Use
  OfField : Use
  Unused : Use

-- how the name that is kid i of a node is used: a name that the node defines isn't, nor is the program's own, nor its parameters
abbrev pub use_below : Kind → ℕ → Use
use_below kind.Tname i = LookedUp
use_below kind.Pointer i = LookedUp
use_below kind.Cname i = LookedUp
use_below kind.Ref i = LookedUp
use_below kind.Call i = LookedUp
use_below kind.Proc i = LookedUp
use_below kind.For i = LookedUp
use_below kind.Valparam i = LookedUp
use_below kind.Varparam i = LookedUp
use_below kind.Function i = if i == 3 then LookedUp else Unused
use_below kind.Select i = OfField
use_below k i = Unused

-- how kid i of a node is used, by the kinds of the two: only a name is, and no hole
abbrev pub use_of : Kind → Kind → ℕ → Use
use_of kind.Name outer i = use_below outer i
use_of k outer i = Unused

-- ---- statements with `with` (ISO 7185, 6.8.3.10)

-- the places of the first n accesses of the statement at a place, the last first
abbrev pub accesses_before : List ℕ → ℕ → List (List ℕ)
accesses_before p zero = []
accesses_before p (suc n) = (p ++ 1 ∷ suc n ∷ []) ∷ accesses_before p n

-- how many kids the first of these nodes has
abbrev pub count_below_first : Forest → ℕ
count_below_first Nil = 0
count_below_first (Cons k w ns ks ts) = count ks

-- how many of its n accesses are open on this way from the statement: all in the statement inside, and in an access those before it
abbrev pub open_count : ℕ → List ℕ → ℕ
open_count n [] = 0
open_count n (i ∷ []) = if i == 2 then n else 0
open_count n (i ∷ j ∷ way) = if i == 2 then n else j - 1

-- the accesses that a node at a place, with this kind and these kids, opens on this way from it
abbrev pub opened_by : Kind → Forest → List ℕ → List ℕ → List (List ℕ)
opened_by kind.With ks p way = accesses_before p (open_count (count_below_first ks) way)
opened_by k ks p way = []

-- the accesses that are open on this way from the node at a place, besides those that are open around it: the innermost `with` first, and of
-- one the last access first
abbrev pub opened_on : List ℕ → List (List ℕ) → List ℕ → Plain → List (List ℕ)
opened_on p outer [] t = outer
opened_on p outer (i ∷ way) t =
    let opened = opened_by t.kind t.kids p (i ∷ way) ++ outer in option_map_or (opened_on (p ++ i ∷ []) opened way) (kid_at t i) opened

-- the places of the accesses whose records are open at a place
unfoldable pub opened_at : Plain → List ℕ → List (List ℕ)
opened_at t q = opened_on [] [] q t
