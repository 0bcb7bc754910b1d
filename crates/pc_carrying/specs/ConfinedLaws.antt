-- Of names that are declared later the targets say nothing: from place to place, and at the names in a row at or below a denoter.
use Rattle.std.proofs.Common.{◌≡◌, ℕ, zero, suc, Bool, true, false, if◌then◌else◌, List, [], ◌∷◌, sym, ◌∙◌, ap}
use Rattle.std.proofs.lemmas.Bool.{false≢true}
use Rattle.std.specs.Prelude.{get_or}
use Rattle.pc_syntax.specs.declared.kind.Kind.{Kind}
use Rattle.pc_syntax.specs.declared.kind.Kind.TheVariants as kind
use Rattle.pc_syntax.specs.Plain.{Forest, Nil, Cons}
use Rattle.pc_syntax.specs.Words.{lowered}
use Rattle.pc_types.specs.Shapes.{Owner, Domain}
use Rattle.pc_types.specs.Domains.{stands_in}
use Rattle.pc_rules.specs.Attributes.{Marked, Node, nodes, missing}
use Rattle.pc_rules.specs.Decorated.{Seen, unseen, seen, rule, decorate}
use Rattle.pc_rules.specs.Meanings.{Missing, Local, Outside, find}
use Rattle.pc_rules.specs.Places.{inner, beside}
use Rattle.pc_pointers.specs.Good.{Targets}
use Rattle.pc_carrying.specs.Carrying.{IsConfinedName, ConfinedPlace, CarriedPlace, KnownCarried, is_denoting, AllDenoting}
use Rattle.pc_carrying.specs.LaterLaws.{StaysLater, later-before, beside-later}

-- ---- places

-- what is declared later behind was so before, so the targets say nothing of it there either
pub confined-moved : (targets : Targets) (own : List Domain) (out : Outside) (l m : Local) → StaysLater l m → ConfinedPlace targets own out l → ConfinedPlace targets own out m
confined-moved targets own out l m h g = λ n c e s.
    ap (λ (o : Owner). targets o n) h.owner ∙ g n c (later-before out l m n c h e) (ap (λ (o : Owner). stands_in own o n) (sym h.owner) ∙ s)

-- a place behind, where what is declared is carried
pub moved-place : (targets : Targets) (own : List Domain) (out : Outside) (l m : Local) → StaysLater l m → KnownCarried targets own m.known → CarriedPlace targets own out l → CarriedPlace targets own out m
moved-place targets own out l m h k g = record { known = k; outside = g.outside; confined = confined-moved targets own out l m h g.confined }

-- ---- nodes

-- what each of some nodes means as a name
abbrev pub AllConfined : Targets → List Domain → Owner → List Node → Type 0
AllConfined targets own o [] = Unit {0}
AllConfined targets own o (n ∷ ns) = IsConfinedName targets own o (lowered n.word) n.found × AllConfined targets own o ns

-- what isn't found is not declared later
none-confined : (targets : Targets) (own : List Domain) (o : Owner) (n : List ℕ) → IsConfinedName targets own o n Missing
none-confined targets own o n = λ c e s. absurd (cc e)

pub kid-confined : (targets : Targets) (own : List Domain) (o : Owner) (ns : List Node) (i : ℕ) → AllConfined targets own o ns →
    IsConfinedName targets own o (lowered (get_or ns i missing).word) (get_or ns i missing).found
kid-confined targets own o [] i h = none-confined targets own o (lowered missing.word)
kid-confined targets own o (n ∷ ns) zero h = h.0
kid-confined targets own o (n ∷ ns) (suc i) h = kid-confined targets own o ns i h.1

-- what a node looks up
seen-confined : (targets : Targets) (own : List Domain) (o : Owner) (out : Outside) (l : Local) (k : Kind) (w : List ℕ) → ((n : List ℕ) → IsConfinedName targets own o n (find out l n)) →
    IsConfinedName targets own o (lowered w) (seen out l k w).found
seen-confined targets own o out l kind.Name w h = by l.using where
  by : (b : Bool) → IsConfinedName targets own o (lowered w) (if b then record { found = find out l (lowered w); changed = out.touched (lowered w) } else unseen).found
  by true = h (lowered w)
  by false = none-confined targets own o (lowered w)
seen-confined targets own o out l k w h = none-confined targets own o (lowered w)

-- only a name means anything
rule-confined : (targets : Targets) (own : List Domain) (o : Owner) (l : Local) (k : Kind) (w : List ℕ) (s : Seen) (m : Marked) → is_denoting k ≡ true → IsConfinedName targets own o (lowered w) s.found →
    IsConfinedName targets own o (lowered (rule l k w s m).word) (rule l k w s m).found
unfolding rule
rule-confined targets own o l kind.Name w s m e h = h
rule-confined targets own o l kind.Tname w s m e h = none-confined targets own o (lowered w)
rule-confined targets own o l kind.Enum w s m e h = none-confined targets own o (lowered w)
rule-confined targets own o l kind.Subrange w s m e h = none-confined targets own o (lowered w)
rule-confined targets own o l kind.Array w s m e h = none-confined targets own o (lowered w)
rule-confined targets own o l kind.Record w s m e h = none-confined targets own o (lowered w)
rule-confined targets own o l kind.Record0 w s m e h = none-confined targets own o (lowered w)
rule-confined targets own o l kind.Setof w s m e h = none-confined targets own o (lowered w)
rule-confined targets own o l kind.Packed w s m e h = none-confined targets own o (lowered w)
rule-confined targets own o l kind.Pointer w s m e h = none-confined targets own o (lowered w)
rule-confined targets own o l kind.Cnumber w s m e h = none-confined targets own o (lowered w)
rule-confined targets own o l kind.Cstring w s m e h = none-confined targets own o (lowered w)
rule-confined targets own o l kind.Cname w s m e h = none-confined targets own o (lowered w)
rule-confined targets own o l kind.Csign w s m e h = none-confined targets own o (lowered w)
rule-confined targets own o l kind.Names w s m e h = none-confined targets own o (lowered w)
rule-confined targets own o l kind.Indexes w s m e h = none-confined targets own o (lowered w)
rule-confined targets own o l kind.Fields w s m e h = none-confined targets own o (lowered w)
rule-confined targets own o l kind.Field w s m e h = none-confined targets own o (lowered w)
rule-confined targets own o l (kind.Hole x) w s m e h = none-confined targets own o (lowered w)
rule-confined targets own o l k w s m e h = absurd (false≢true e)

-- nodes in a row
pub row-confined : (targets : Targets) (own : List Domain) (o : Owner) (out : Outside) (l : Local) (f : Forest) → AllDenoting f → ((n : List ℕ) → IsConfinedName targets own o n (find out l n)) →
    AllConfined targets own o (nodes (decorate out l f))
unfolding decorate
row-confined targets own o out l Nil a h = tt
row-confined targets own o out l (Cons k w ns ks ts) a h =
    let m = decorate out (inner l k ks) ks in
    let r = rule l k w (seen out l k w) m in
    let next = beside l k r in (
      rule-confined targets own o l k w (seen out l k w) m a.0 (seen-confined targets own o out l k w h),
      row-confined targets own o out next ts a.2 (λ n c e s. h n c (later-before out l next n c (beside-later l k r) e) s),
    )
