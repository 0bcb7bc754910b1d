-- Where the types of what names mean are good, they are below each node of a statement part, and behind it.
use Rattle.std.proofs.Common.{◌≡◌, ℕ, List, [], ◌∷◌, ◌++◌, Bool, true, false, if◌then◌else◌, Option, Some, refl, sym, subst}
use Rattle.std.proofs.lemmas.Bool.{false≢true}
use Rattle.std.specs.Str.{bytes_eq}
use Rattle.pc_syntax.specs.Plain.{Forest}
use Rattle.pc_syntax.specs.Words.{lowered}
use Rattle.pc_syntax.specs.declared.kind.Kind.{Kind}
use Rattle.pc_syntax.specs.declared.kind.Kind.TheVariants as kind
use Rattle.pc_types.specs.Shapes.{Typed}
use Rattle.pc_rules.specs.Meanings.{Found, Local, Outside, entry_of, known_or, later_or, field_or, find, define_all}
use Rattle.pc_rules.specs.Attributes.{Attributes}
use Rattle.pc_rules.specs.Places.{inner, beside}
use Rattle.pc_rules.specs.Decorated.{Seen, unseen, seen}
use Rattle.pc_environment.specs.Sight.{is_body}
use Rattle.pc_environment.specs.SightLaws.{sight-inner}
use Rattle.pc_pointers.specs.Good.{Targets, AllOpenedGood, IsGoodFound, GoodPlace}

-- below a node
pub place-inner : (out : Outside) (l : Local) (targets : Targets) (k : Kind) (ks : Forest) → is_body k ≡ true → GoodPlace out l targets → GoodPlace out (inner l k ks) targets
place-inner out l targets k ks e g n = subst (λ (f : Found). IsGoodFound targets f) (λ i. (sym (sight-inner out l k ks e) i).means n) (g n)

-- what names mean behind a node that declares nothing
find-behind : (out : Outside) (l : Local) (k : Kind) (a : Attributes) (n : List ℕ) → is_body k ≡ true → a.defines ≡ [] →
    find out (beside l k a) n ≡ find out (record l { fields = if l.opening then a.opens ++ l.fields else l.fields }) n
unfolding find
find-behind out l kind.Cnumber a n e d = λ i. find out (record (define_all l (d i)) { fields = if l.opening then a.opens ++ l.fields else l.fields }) n
find-behind out l kind.Cstring a n e d = λ i. find out (record (define_all l (d i)) { fields = if l.opening then a.opens ++ l.fields else l.fields }) n
find-behind out l kind.Cname a n e d = λ i. find out (record (define_all l (d i)) { fields = if l.opening then a.opens ++ l.fields else l.fields }) n
find-behind out l kind.Csign a n e d = λ i. find out (record (define_all l (d i)) { fields = if l.opening then a.opens ++ l.fields else l.fields }) n
find-behind out l kind.Empty a n e d = λ i. find out (record (define_all l (d i)) { fields = if l.opening then a.opens ++ l.fields else l.fields }) n
find-behind out l kind.Assign a n e d = λ i. find out (record (define_all l (d i)) { fields = if l.opening then a.opens ++ l.fields else l.fields }) n
find-behind out l kind.Proc a n e d = λ i. find out (record (define_all l (d i)) { fields = if l.opening then a.opens ++ l.fields else l.fields }) n
find-behind out l kind.Compound a n e d = λ i. find out (record (define_all l (d i)) { fields = if l.opening then a.opens ++ l.fields else l.fields }) n
find-behind out l kind.If a n e d = λ i. find out (record (define_all l (d i)) { fields = if l.opening then a.opens ++ l.fields else l.fields }) n
find-behind out l kind.Ifelse a n e d = λ i. find out (record (define_all l (d i)) { fields = if l.opening then a.opens ++ l.fields else l.fields }) n
find-behind out l kind.Case a n e d = λ i. find out (record (define_all l (d i)) { fields = if l.opening then a.opens ++ l.fields else l.fields }) n
find-behind out l kind.Arm a n e d = λ i. find out (record (define_all l (d i)) { fields = if l.opening then a.opens ++ l.fields else l.fields }) n
find-behind out l kind.Repeat a n e d = λ i. find out (record (define_all l (d i)) { fields = if l.opening then a.opens ++ l.fields else l.fields }) n
find-behind out l kind.While a n e d = λ i. find out (record (define_all l (d i)) { fields = if l.opening then a.opens ++ l.fields else l.fields }) n
find-behind out l kind.For a n e d = λ i. find out (record (define_all l (d i)) { fields = if l.opening then a.opens ++ l.fields else l.fields }) n
find-behind out l kind.With a n e d = λ i. find out (record (define_all l (d i)) { fields = if l.opening then a.opens ++ l.fields else l.fields }) n
find-behind out l kind.Ref a n e d = λ i. find out (record (define_all l (d i)) { fields = if l.opening then a.opens ++ l.fields else l.fields }) n
find-behind out l kind.Index a n e d = λ i. find out (record (define_all l (d i)) { fields = if l.opening then a.opens ++ l.fields else l.fields }) n
find-behind out l kind.Select a n e d = λ i. find out (record (define_all l (d i)) { fields = if l.opening then a.opens ++ l.fields else l.fields }) n
find-behind out l kind.Deref a n e d = λ i. find out (record (define_all l (d i)) { fields = if l.opening then a.opens ++ l.fields else l.fields }) n
find-behind out l kind.Number a n e d = λ i. find out (record (define_all l (d i)) { fields = if l.opening then a.opens ++ l.fields else l.fields }) n
find-behind out l kind.Text a n e d = λ i. find out (record (define_all l (d i)) { fields = if l.opening then a.opens ++ l.fields else l.fields }) n
find-behind out l kind.Nil a n e d = λ i. find out (record (define_all l (d i)) { fields = if l.opening then a.opens ++ l.fields else l.fields }) n
find-behind out l kind.Call a n e d = λ i. find out (record (define_all l (d i)) { fields = if l.opening then a.opens ++ l.fields else l.fields }) n
find-behind out l kind.Parens a n e d = λ i. find out (record (define_all l (d i)) { fields = if l.opening then a.opens ++ l.fields else l.fields }) n
find-behind out l kind.Not a n e d = λ i. find out (record (define_all l (d i)) { fields = if l.opening then a.opens ++ l.fields else l.fields }) n
find-behind out l kind.Setcon a n e d = λ i. find out (record (define_all l (d i)) { fields = if l.opening then a.opens ++ l.fields else l.fields }) n
find-behind out l kind.Mul a n e d = λ i. find out (record (define_all l (d i)) { fields = if l.opening then a.opens ++ l.fields else l.fields }) n
find-behind out l kind.Add a n e d = λ i. find out (record (define_all l (d i)) { fields = if l.opening then a.opens ++ l.fields else l.fields }) n
find-behind out l kind.Sign a n e d = λ i. find out (record (define_all l (d i)) { fields = if l.opening then a.opens ++ l.fields else l.fields }) n
find-behind out l kind.Rel a n e d = λ i. find out (record (define_all l (d i)) { fields = if l.opening then a.opens ++ l.fields else l.fields }) n
find-behind out l kind.Width a n e d = λ i. find out (record (define_all l (d i)) { fields = if l.opening then a.opens ++ l.fields else l.fields }) n
find-behind out l kind.Span a n e d = λ i. find out (record (define_all l (d i)) { fields = if l.opening then a.opens ++ l.fields else l.fields }) n
find-behind out l kind.Name a n e d = λ i. find out (record (define_all l (d i)) { fields = if l.opening then a.opens ++ l.fields else l.fields }) n
find-behind out l kind.Args a n e d = λ i. find out (record (define_all l (d i)) { fields = if l.opening then a.opens ++ l.fields else l.fields }) n
find-behind out l kind.Labels a n e d = λ i. find out (record (define_all l (d i)) { fields = if l.opening then a.opens ++ l.fields else l.fields }) n
find-behind out l kind.Exprs a n e d = λ i. find out (record (define_all l (d i)) { fields = if l.opening then a.opens ++ l.fields else l.fields }) n
find-behind out l kind.Accesses a n e d = λ i. find out (record (define_all l (d i)) { fields = if l.opening then a.opens ++ l.fields else l.fields }) n
find-behind out l kind.Members a n e d = λ i. find out (record (define_all l (d i)) { fields = if l.opening then a.opens ++ l.fields else l.fields }) n
find-behind out l kind.Stmts a n e d = λ i. find out (record (define_all l (d i)) { fields = if l.opening then a.opens ++ l.fields else l.fields }) n
find-behind out l kind.Arms a n e d = λ i. find out (record (define_all l (d i)) { fields = if l.opening then a.opens ++ l.fields else l.fields }) n
find-behind out l (kind.Hole s) a n e d = refl
find-behind out l k a n e d = absurd (false≢true e)

-- a field that is opened, or another
either-entry : (targets : Targets) (b : Bool) (x : Typed × Bool) (r : Option (Typed × Bool)) (other : Found) →
    IsGoodFound targets (field_or (Some x) other) → IsGoodFound targets (field_or r other) → IsGoodFound targets (field_or (if b then Some x else r) other)
either-entry targets true x r other g h = g
either-entry targets false x r other g h = h

-- fields that are opened before others
entry-good : (targets : Targets) (fs gs : List (List ℕ × (Typed × Bool))) (n : List ℕ) (other : Found) →
    AllOpenedGood targets fs → IsGoodFound targets (field_or (entry_of gs n) other) → IsGoodFound targets (field_or (entry_of (fs ++ gs) n) other)
entry-good targets [] gs n other f g = g
entry-good targets (x ∷ fs) gs n other f g = either-entry targets (bytes_eq x.0 n) x.1 (entry_of (fs ++ gs) n) other f.0 (entry-good targets fs gs n other f.1 g)

-- a place where fields may be opened
place-opened : (out : Outside) (l : Local) (targets : Targets) (b : Bool) (fs : List (List ℕ × (Typed × Bool))) →
    AllOpenedGood targets fs → GoodPlace out l targets → GoodPlace out (record l { fields = if b then fs ++ l.fields else l.fields }) targets
unfolding find
place-opened out l targets true fs f g n = entry-good targets fs l.fields n (known_or out n (entry_of l.known n) (later_or (entry_of l.names n) (out.means n))) f (g n)
place-opened out l targets false fs f g n = g n

-- behind a node that declares nothing and opens good fields
pub place-beside : (out : Outside) (l : Local) (targets : Targets) (k : Kind) (a : Attributes) →
    is_body k ≡ true → a.defines ≡ [] → AllOpenedGood targets a.opens → GoodPlace out l targets → GoodPlace out (beside l k a) targets
place-beside out l targets k a e d f g n =
    subst (λ (x : Found). IsGoodFound targets x) (sym (find-behind out l k a n e d)) (place-opened out l targets l.opening a.opens f g n)

-- one of two sights
either-seen : (targets : Targets) (b : Bool) (s t : Seen) → IsGoodFound targets s.found → IsGoodFound targets t.found → IsGoodFound targets (if b then s else t).found
either-seen targets true s t g h = g
either-seen targets false s t g h = h

-- what a node looks up
pub seen-good : (out : Outside) (l : Local) (targets : Targets) (k : Kind) (w : List ℕ) → GoodPlace out l targets → IsGoodFound targets (seen out l k w).found
seen-good out l targets kind.Name w g = either-seen targets l.using (record { found = find out l (lowered w); changed = out.touched (lowered w) }) unseen (g (lowered w)) tt
seen-good out l targets k w g = tt
