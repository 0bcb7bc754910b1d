-- What holds at the places that a shape names, and goes on to what these lead to, holds at all places that are reached.
use Rattle.std.proofs.Common.{◌≡◌, ℕ, zero, suc, ◌+◌, Bool, true, false, List, [], ◌∷◌, ◌++◌, Option, sym, subst, inl, inr, true≢false}
use Rattle.std.proofs.lemmas.Bool.{or_cases}
use Rattle.pc_types.specs.Shapes.{Owner, Shape, Domain}
use Rattle.pc_types.specs.Domains.{is_domain, domain_in, stands_in, named_in, named_in_option, walk, reached, length_of_domains, count_named}
use Rattle.pc_closed.specs.Reached.{AllFrom}
use Rattle.pc_closed.specs.PlaceLaws.{is_domain-tells, from-both}
use Rattle.pc_closed.specs.WalkLaws.{named-from}
use Rattle.pc_closing.specs.KeptLaws.{option-from}

-- something holds at the place of each of some domains
abbrev pub EachPlace : (Owner → List ℕ → Type 0) → List Domain → Type 0
EachPlace P [] = Unit {0}
EachPlace P (d ∷ ds) = P d.owner d.name × EachPlace P ds

pub each-both : (P : Owner → List ℕ → Type 0) (ds es : List Domain) → EachPlace P ds → EachPlace P es → EachPlace P (ds ++ es)
each-both P [] es h k = k
each-both P (d ∷ ds) es h k = (h.0, each-both P ds es h.1 k)

-- it holds where one of them stands
pub each-at : (P : Owner → List ℕ → Type 0) (ds : List Domain) (o : Owner) (n : List ℕ) → EachPlace P ds → stands_in ds o n ≡ true → P o n
each-at P [] o n h s = absurd (true≢false (sym s))
each-at P (d ∷ ds) o n h s = elim (or_cases (is_domain o n d) (stands_in ds o n) s) [
  | inl e ↦ let q = is_domain-tells o n d e in subst (λ (x : Owner). P x n) (sym q.0) (subst (λ (m : List ℕ). P d.owner m) (sym q.1) h.0)
  | inr e ↦ each-at P ds o n h.1 e
]

-- it goes on from a place to those that the shape there names
abbrev pub GoesOn : (Owner → List ℕ → Type 0) → List Domain → Type 0
GoesOn P table = (o : Owner) (n : List ℕ) → P o n → EachPlace P (named_in_option table (domain_in table o n))

walk-each : (visits : ℕ) (P : Owner → List ℕ → Type 0) (table met ahead : List Domain) → GoesOn P table → AllFrom table ahead → EachPlace P met → EachPlace P ahead →
    EachPlace P (walk visits table met ahead)
walk-each zero P table met ahead h f m a = m
walk-each (suc visits) P table met [] h f m a = m
walk-each (suc visits) P table met (d ∷ ahead) h f m a =
    by (walk-each visits P table met ahead h f.1 m a.1)
    (walk-each visits P table (met ++ d ∷ []) (named_in_option table d.shape ++ ahead) h (from-both table (named_in_option table d.shape) ahead (option-from table d.shape) f.1)
    (each-both P met (d ∷ []) m (a.0, tt)) (each-both P (named_in_option table d.shape) ahead named a.1))
    (stands_in met d.owner d.name) where
      named : EachPlace P (named_in_option table d.shape)
      named = subst (λ (x : Option Shape). EachPlace P (named_in_option table x)) (sym f.0) (h d.owner d.name a.0)

      by : EachPlace P (walk visits table met ahead) → EachPlace P (walk visits table (met ++ d ∷ []) (named_in_option table d.shape ++ ahead)) → (b : Bool) →
          EachPlace P (elim b [ true ↦ walk visits table met ahead | false ↦ walk visits table (met ++ d ∷ []) (named_in_option table d.shape ++ ahead) ])
      by old new true = old
      by old new false = new

pub reached-each : (P : Owner → List ℕ → Type 0) (table : List Domain) (t : Shape) → GoesOn P table → EachPlace P (named_in table t) → EachPlace P (reached table t)
unfolding reached
reached-each P table t h a = walk-each (length_of_domains (named_in table t) + count_named table table) P table [] (named_in table t) h (named-from table t) tt a
