-- Arrays of arrays: lemmas.
use Rattle.std.specs.Prelude.{◌≡◌, ℕ, suc, ◌+◌, ◌<◌, ◌≤◌, ◌-◌, get_or, take, drop, Bool, List, [], ◌∷◌, ◌++◌, Option, Some, None, length}
use Rattle.std.specs.Option.{option_and_then, ForSome}
use Rattle.std.proofs.Common.{refl, ap, sym, ◌∙◌, subst, append-nil, append_assoc, arith, length-append, take_all}
use Rattle.pc_types.specs.Shapes.{Owner, Definition, Shape, Typed, ArrayType}
use Rattle.pc_types.specs.Table.{Table, numbered, definition_in, shape_in}
use Rattle.pc_types.specs.declared.form.TypeId.{TypeId}
use Rattle.pc_types.specs.declared.form.OwnerId.{OwnerId}
use Rattle.pc_types.specs.declared.form.Definition.{Definition as Written}
use Rattle.pc_types.specs.declared.form.Form.TheVariants as form
use Rattle.pc_types.specs.declared.operand.Operand.{Operand}
use Rattle.pc_rules.specs.Attributes.{Entry, Node, at_kid, each_kid}
use Rattle.pc_rules.specs.StructuredTypes as rule
use Rattle.pc_facts.specs.Known.{Known}
use Rattle.pc_facts.specs.Shows.{ShowsType, ShowsNode, AllShow, value_of}
use Rattle.pc_facts.specs.declared.facts.Facts.{Facts}
use Rattle.pc_type_rules.specs.Denoted.{IsNumber}
use Rattle.pc_type_rules.specs.Extends.{Extends}
use Rattle.pc_type_rules.specs.ExtendsLaws.{Extends-then, definition_in-extends, there-extends, numbered-extends, ShowsType-extends, ShowsNode-extends}
use Rattle.pc_type_rules.specs.Arrays.{ShowsAt, array_of}
use Rattle.pc_type_rules.proofs.MadeSteps.{Made}
use Rattle.pc_type_rules.proofs.NumberSteps.{number-shape, no-number}
use Rattle.pc_type_rules.proofs.NodeSteps.{shows-of, shows-as}

pub IsNumber-extends : (a b : Table) (o : Option TypeId) (ty : Option Typed) → Extends a b → IsNumber a o ty → IsNumber b o ty
IsNumber-extends a b None ty g h = record { shape = h.shape; there = λ x e. there-extends a b x g (h.there x e) }
IsNumber-extends a b (Some i) ty g h = record { shape = ap Some (numbered-extends a b i g (h.there i refl)) ∙ h.shape; there = λ x e. there-extends a b x g (h.there x e) }

pub array-made : (t u : Table) (here : Written) (p : Bool) (i j : TypeId) (by of : Option TypeId) (o : Option Operand) (d : Definition) (x y : Option Typed) → by ≡ Some i → of ≡ Some j →
    Made u o (shape_in t here (form.Array p i j)) → definition_in t.owners here ≡ d → IsNumber t by x → IsNumber t of y → ShowsType u o (array_of d p x y)
array-made t u here p i j by of o d None y is same made def h g = absurd (no-number t i by is h)
array-made t u here p i j by of o d (Some x) None is same made def h g = absurd (no-number t j of same g)
array-made t u here p i j by of o d (Some x) (Some y) is same made def h g =
    made (Some (record { shape = ArrayType d p x.shape y.shape; domains = y.domains }))
    (ap (λ (e : Definition). let s : Option Shape = Some (ArrayType e p x.shape y.shape) in s) (sym def)
    ∙ ap (λ (v : Shape). let s : Option Shape = Some (ArrayType (definition_in t.owners here) p v y.shape) in s) (sym (number-shape t i by x is h))
    ∙ ap (λ (v : Shape). let s : Option Shape = Some (ArrayType (definition_in t.owners here) p (numbered t.shapes i) v) in s) (sym (number-shape t j of y same g)))

pub each_kid-more : (entries : Node → List Entry) (i : ℕ) (ns : List Node) (n : Node) → each_kid entries i (ns ++ n ∷ []) ≡ each_kid entries i ns ++ at_kid (i + length ns) (entries n)
each_kid-more entries i [] n = let e : i + 0 ≡ i = omega arith in append-nil (at_kid i (entries n)) ∙ ap (λ (j : ℕ). at_kid j (entries n)) (sym e)
each_kid-more entries i (m ∷ ns) n =
    let e : suc i + length ns ≡ i + suc (length ns) = omega arith in
    ap (λ (es : List Entry). at_kid i (entries m) ++ es) (each_kid-more entries (suc i) ns n ∙ ap (λ (j : ℕ). each_kid entries (suc i) ns ++ at_kid j (entries n)) e)
    ∙ sym (append_assoc (at_kid i (entries m)) (each_kid entries (suc i) ns) (at_kid (i + suc (length ns)) (entries n)))

-- the nodes of a row are those of its beginning, and one more
pub record Split (k : Known) (fs : List Facts) (f : Facts) (nodes : List Node) : Type 0 where
  pub front : List Node
  pub last : Node
  pub is : nodes ≡ front ++ last ∷ []
  pub shown : AllShow (ShowsAt k) fs front
  pub at : ShowsNode k f last.at
  pub long : length front ≡ length fs

pub split : (k : Known) (fs : List Facts) (f : Facts) (nodes : List Node) → AllShow (ShowsAt k) (fs ++ f ∷ []) nodes → Split k fs f nodes
split k [] f [] h = absurd h
split k [] f (n ∷ []) h = record { front = []; last = n; is = refl; shown = tt; at = h.0; long = refl }
split k [] f (n ∷ m ∷ ns) h = absurd h.1
split k (g ∷ fs) f [] h = absurd h
split k (g ∷ fs) f (n ∷ ns) h =
    let s = split k fs f ns h.1 in
    record { front = n ∷ s.front; last = s.last; is = ap (λ (v : List Node). n ∷ v) s.is; shown = (h.0, s.shown); at = s.at; long = ap suc s.long }

-- the entries so far, with those of one index more
pub entries-so-far : (t : Table) (fs : List Facts) (f : Facts) (old new es : List Entry) (i : ℕ) → new ≡ old ++ at_kid i es → i ≡ length fs + 1 →
    ((k : Known) (nodes : List Node) → k.table ≡ t → AllShow (ShowsAt k) fs nodes → old ≡ each_kid rule.index_type_entries 1 nodes) → ((k : Known) (a : Node) → k.table ≡ t → ShowsNode k f a.at → es ≡ rule.index_type_entries a) →
    (k : Known) (nodes : List Node) → k.table ≡ t → AllShow (ShowsAt k) (fs ++ f ∷ []) nodes → new ≡ each_kid rule.index_type_entries 1 nodes
entries-so-far t fs f old new es i grown count before one k nodes table h =
    let s = split k fs f nodes h in
    let e : i ≡ 1 + length s.front = let l = s.long in omega (arith, count, l) in
    grown ∙ ap (λ (v : List Entry). v ++ at_kid i es) (before k s.front table s.shown) ∙ ap (λ (v : List Entry). each_kid rule.index_type_entries 1 s.front ++ at_kid i v) (one k s.last table s.at)
    ∙ ap (λ (j : ℕ). each_kid rule.index_type_entries 1 s.front ++ at_kid j (rule.index_type_entries s.last)) e ∙ sym (each_kid-more rule.index_type_entries 1 s.front s.last)
    ∙ ap (λ (v : List Node). each_kid rule.index_type_entries 1 v) (sym s.is)

pub one-longer : (fs : List Facts) (f : Facts) (i n : ℕ) → n ≡ i + 1 → i ≡ length fs + 1 → n ≡ length (fs ++ f ∷ []) + 1
one-longer fs f i n e h = let l : length (fs ++ f ∷ []) ≡ length fs + 1 = length-append fs (f ∷ []) in omega (arith, e, h, l)

pub written-at : (a b c : Table) (w here : Written) (i : ℕ) (d : Definition) → Extends a b → Extends b c → w.owner ≡ here.owner → here.owner.0 < length a.owners →
    ((owners : List Owner) → definition_in owners w ≡ rule.numbered (definition_in owners here) i) → definition_in a.owners here ≡ d → definition_in c.owners w ≡ rule.numbered d i
written-at a b c w here i d f g same there is def =
    let owned : w.owner.0 < length a.owners = subst (λ (o : OwnerId). o.0 < length a.owners) (sym same) there in
    definition_in-extends a c w (Extends-then a b c f g) owned ∙ is a.owners ∙ ap (λ (e : Definition). rule.numbered e i) def

pub number-same : (t : Table) (o p : Option TypeId) (ty : Option Typed) → (ForSome o (λ x. x.0 < length t.shapes) → p ≡ o) → IsNumber t o ty → IsNumber t p ty
number-same t o p ty same h = subst (λ (v : Option TypeId). IsNumber t v ty) (sym (same h.there)) h

-- the array with number i is over those behind it
array-none : (d : Definition) (p : Bool) (x : Option Typed) → array_of d p x None ≡ None
array-none d p None = refl
array-none d p (Some x) = refl

pub array-front : (d : Definition) (i : ℕ) (p : Bool) (n : Node) (ns : List Node) (ty : Option Typed) →
    array_of (rule.numbered d i) p n.as_value.type (option_and_then (rule.arrays d (suc i) p ns) ty) ≡ option_and_then (rule.arrays d i p (n ∷ ns)) ty
array-front d i p n ns None = array-none (rule.numbered d i) p n.as_value.type
array-front d i p n ns (Some e) = refl

-- what those behind it are shown to be
abbrev pub RestShown : Table → Table → Written → Option Operand → Option Operand → ℕ → Bool → List Facts → Type 0
RestShown t u here element inner i p rest =
    (k : Known) (d : Definition) (nodes : List Node) (ty : Option Typed) → k.table ≡ t → definition_in t.owners here ≡ d → AllShow (ShowsAt k) rest nodes → ShowsType t element ty → ShowsType u inner (option_and_then (rule.arrays d i p nodes) ty)

-- what the one with number i is shown to be
abbrev pub WholeShown : Table → Table → Written → Option Operand → Option Operand → Option Operand → ℕ → Bool → Type 0
WholeShown u v here index inner whole i p =
    (d : Definition) (x y : Option Typed) → definition_in u.owners here ≡ d → ShowsType u index x → ShowsType u inner y → ShowsType v whole (array_of (rule.numbered d i) p x y)

-- the same facts
pub all-in : (k : Known) (gs fs : List Facts) (nodes : List Node) → gs ≡ fs → AllShow (ShowsAt k) fs nodes → AllShow (ShowsAt k) gs nodes
all-in k gs fs nodes e h = subst (λ (v : List Facts). AllShow (ShowsAt k) v nodes) (sym e) h

-- arrays from number i on, from the one with that number and those behind it
pub arrays-step : (t u v : Table) (here : Written) (p : Bool) (i j : ℕ) (fs : List Facts) (f : Facts) (element index inner whole : Option Operand) → Extends t u →
    here.owner.0 < length t.owners → j ≡ i + 1 → 1 ≤ length fs → f ≡ get_or fs 0 f → index ≡ (value_of f.judgement).of →
    RestShown t u here element inner j p (take (length fs - 1) (drop 1 fs)) → WholeShown u v here index inner whole i p →
    (k : Known) (d : Definition) (nodes : List Node) (ty : Option Typed) → k.table ≡ t → definition_in t.owners here ≡ d → AllShow (ShowsAt k) fs nodes → ShowsType t element ty → ShowsType v whole (option_and_then (rule.arrays d i p nodes) ty)
arrays-step t u v here p i j [] f element index inner whole g owned next some first same rest one k d nodes ty table def h e = let no : ⊥ = omega (arith, some) in absurd no
arrays-step t u v here p i j (x ∷ xs) f element index inner whole g owned next some first same rest one k d [] ty table def h e = absurd h
arrays-step t u v here p i j (x ∷ xs) f element index inner whole g owned next some first same rest one k d (n ∷ ns) ty table def h e =
    let is : x ≡ f = sym first in
    let at : index ≡ (value_of x.judgement).of = same ∙ ap (λ (y : Facts). (value_of y.judgement).of) (sym is) in
    let behind : take (length (x ∷ xs) - 1) xs ≡ xs = take_all (length (x ∷ xs) - 1) xs (omega arith) in
    let number : j ≡ suc i = omega (arith, next) in
    let below : ShowsType u inner (option_and_then (rule.arrays d (suc i) p ns) ty) = subst (λ (m : ℕ). ShowsType u inner (option_and_then (rule.arrays d m p ns) ty)) number (rest k d ns ty table def (all-in k _ xs ns behind h.1) e) in
    shows-as v whole _ _ (array-front d i p n ns ty)
    (one d n.as_value.type (option_and_then (rule.arrays d (suc i) p ns) ty) (definition_in-extends t u here g owned ∙ def)
    (ShowsType-extends t u index n.as_value.type g (shows-of k.table t _ index n.as_value.type at table h.0.value.type)) below)

-- index types that were found stay found
pub all-extend : (k : Known) (t : Table) (fs : List Facts) (nodes : List Node) → Extends k.table t → AllShow (ShowsAt k) fs nodes → AllShow (ShowsAt (record k { table = t })) fs nodes
all-extend k t [] [] g h = h
all-extend k t [] (n ∷ ns) g h = absurd h
all-extend k t (f ∷ fs) [] g h = absurd h
all-extend k t (f ∷ fs) (n ∷ ns) g h = (ShowsNode-extends k t f n.at g h.0, all-extend k t fs ns g h.1)

pub extends-from : (s t u : Table) → s ≡ t → Extends t u → Extends s u
extends-from s t u e g = subst (λ (v : Table). Extends v u) (sym e) g

-- the entries of both kids of an array
pub array-entries : (none one two xs ys es fs : List Entry) → none ≡ [] → xs ≡ es → ys ≡ fs → one ≡ none ++ at_kid 1 xs → two ≡ one ++ at_kid 2 ys → two ≡ at_kid 1 es ++ at_kid 2 fs
array-entries none one two xs ys es fs is e f first second =
    second ∙ ap (λ (v : List Entry). v ++ at_kid 2 ys) (first ∙ ap (λ (v : List Entry). v ++ at_kid 1 xs) is ∙ ap (at_kid 1) e) ∙ ap (λ (v : List Entry). at_kid 1 es ++ at_kid 2 v) f
