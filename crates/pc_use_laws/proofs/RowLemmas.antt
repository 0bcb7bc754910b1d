-- The fields that are seen at a kid of a node, from those that are seen at the first kid.
use Rattle.std.specs.Prelude.{ℕ, zero, suc, ◌≡◌, ◌+◌, Bool, true, false, if◌then◌else◌, List, [], ◌∷◌, ◌++◌, Some, slice_get}
use Rattle.std.specs.List.{flat_map}
use Rattle.std.proofs.Common.{refl, ap, sym, subst, ◌∙◌, arith, append_assoc}
use Rattle.pc_syntax.specs.declared.kind.Kind.{Kind}
use Rattle.pc_syntax.specs.declared.kind.Kind.TheVariants as kind
use Rattle.pc_syntax.specs.Classes.{is_accesses}
use Rattle.pc_syntax.specs.Plain.{Forest, Nil, Cons, count, trees_of}
use Rattle.pc_types.specs.Shapes.{Typed}
use Rattle.pc_rules.specs.Attributes.{Attributes, first, nodes}
use Rattle.pc_rules.specs.Decorated.{decorate}
use Rattle.pc_rules.specs.DeclaringNames.{all_as}
use Rattle.pc_rules.specs.HandedOn.{all_opens}
use Rattle.pc_rules.specs.Meanings.{VariableName, declared_as, Meaning, Local, Outside, define, define_all}
use Rattle.pc_rules.specs.Places.{inner, beside, entered, pass}
use Rattle.pc_scope.specs.Headings.{first_name, names_of_first}
use Rattle.pc_rule_laws.specs.Agreement.{Spot, spot}
use Rattle.pc_rule_laws.specs.Reached.{BehindIt, IntoIt, ToIt, leads}
use Rattle.pc_decl_laws.proofs.LeadLemmas.{tree_of}

-- fields with their types
abbrev pub Opened : Type 0
Opened = List (List ℕ × (Typed × Bool))

-- the fields that each access of a list opens are known by its place; b says whether these trees are one
abbrev pub Knows : (List ℕ → Opened) → Bool → List ℕ → Outside → Local → ℕ → Forest → Type 0
Knows o b q out l c Nil = Unit {0}
Knows o b q out l c (Cons k w ns ks ts) =
    (b ≡ true → o (q ++ c ∷ []) ≡ (first (decorate out l (Cons k w ns ks Nil))).opens)
    × Knows o (is_accesses k) (q ++ c ∷ []) out (inner l k ks) 1 ks
    × Knows o b q out (beside l k (first (decorate out l (Cons k w ns ks Nil)))) (suc c) ts

-- ---- below a node

defined-fields : (l : Local) (ds : List (List ℕ × Meaning)) → (define_all l ds).fields ≡ l.fields
defined-fields l [] = refl
defined-fields l (d ∷ ds) = defined-fields (define l d.0 d.1) ds

passed-fields : (l : Local) (n : List ℕ) → (pass l n).fields ≡ l.fields
passed-fields l [] = refl
passed-fields l (c ∷ cs) = refl

entered-fields : (l : Local) (k : Kind) (ks : Forest) → (entered l k ks).fields ≡ l.fields
entered-fields l kind.Constdef ks = passed-fields l (first_name ks)
entered-fields l kind.Typedef ks = passed-fields l (first_name ks)
entered-fields l kind.Vardef ks = defined-fields l (all_as (declared_as VariableName l.owner) (names_of_first ks))
entered-fields l kind.Routines ks = refl
entered-fields l _ ks = refl

pub inner-fields : (l : Local) (k : Kind) (ks : Forest) → (inner l k ks).fields ≡ l.fields
inner-fields l k ks = entered-fields l k ks

-- ---- kids in a row

-- the places of the first n kids of the node at a place, the last first
abbrev pub kids_before : List ℕ → ℕ → List (List ℕ)
kids_before q zero = []
kids_before q (suc n) = (q ++ suc n ∷ []) ∷ kids_before q n

-- what is seen behind n kids, where they open records or not
abbrev pub seen_behind : (List ℕ → Opened) → List ℕ → Opened → Bool → ℕ → Opened
seen_behind o q base b n = if b then flat_map o (kids_before q n) ++ base else base

pub one-behind : (o : List ℕ → Opened) (q : List ℕ) (base opens fields : Opened) (b : Bool) (n : ℕ) → (b ≡ true → o (q ++ suc n ∷ []) ≡ opens) → fields ≡ seen_behind o q base b n →
    (if b then opens ++ fields else fields) ≡ seen_behind o q base b (suc n)
one-behind o q base opens fields true n e f = (λ z. sym (e refl) z ++ f z) ∙ sym (append_assoc (o (q ++ suc n ∷ [])) (flat_map o (kids_before q n)) base)
one-behind o q base opens fields false n e f = f

-- a way ends at a node, or goes on below it
abbrev pub Reaches : Outside → Local → Kind → Forest → Spot → List ℕ → Type 0
Reaches out l k ks s [] = s.local ≡ l
Reaches out l k ks s (j ∷ way) = spot out (inner l k ks) 1 ks (j ∷ way) ≡ Some s

-- the kid to which a way leads first, with what is seen there
pub record KidAt (o : List ℕ → Opened) (q : List ℕ) (out : Outside) (base : Opened) (b : Bool) (c : ℕ) (f : Forest) (i : ℕ) (rest : List ℕ) (s : Spot) : Type 0 where
  pub kind : Kind
  pub word : List ℕ
  pub notes : List (List ℕ)
  pub kids : Forest
  pub number : ℕ
  pub number_is : i ≡ suc number
  pub index : ℕ
  pub index_is : c + index ≡ i
  pub here : slice_get (trees_of f) index ≡ Some (tree_of kind word notes kids)
  pub local : Local
  pub fields : local.fields ≡ seen_behind o q base b number
  pub knows : Knows o (is_accesses kind) (q ++ i ∷ []) out (inner local kind kids) 1 kids
  pub reaches : Reaches out local kind kids s rest

pub kid-seen : (o : List ℕ → Opened) (q : List ℕ) (out : Outside) (base : Opened) (b : Bool) (n : ℕ) (l : Local) (f : Forest) (i : ℕ) (rest : List ℕ) (s : Spot) →
    l.opening ≡ b → l.fields ≡ seen_behind o q base b n → Knows o b q out l (suc n) f → spot out l (suc n) f (i ∷ rest) ≡ Some s → KidAt o q out base b (suc n) f i rest s
unfolding spot
kid-seen o q out base b n l Nil i rest s opening fields knows e = cc e
kid-seen o q out base b n l (Cons k w ns ks ts) i rest s opening fields knows e =
    let a : Attributes = first (decorate out l (Cons k w ns ks Nil)) in
    let there : suc n ≡ i → Reaches out l k ks s rest → KidAt o q out base b (suc n) (Cons k w ns ks ts) i rest s = λ same way. record {
      kind = k;
      word = w;
      notes = ns;
      kids = ks;
      number = n;
      number_is = sym same;
      index = 0;
      index_is = no-more n ∙ same;
      here = refl;
      local = l;
      fields = fields;
      knows = subst (λ (m : ℕ). Knows o (is_accesses k) (q ++ m ∷ []) out (inner l k ks) 1 ks) same knows.1;
      reaches = way;
    } in
    elim (leads out l (suc n) k w ns ks ts i rest s e) [
      | ToIt same end here kind ↦ there same (subst (λ (z : List ℕ). Reaches out l k ks s z) (sym end) here)
      | IntoIt same m more is apart f ↦ there same (subst (λ (z : List ℕ). Reaches out l k ks s z) (sym is) f)
      | BehindIt less f ↦
          let r : KidAt o q out base b (suc (suc n)) ts i rest s = kid-seen o q out base b (suc n) (beside l k a) ts i rest s opening
          (ap (λ (z : Bool). if z then a.opens ++ l.fields else l.fields) opening ∙ one-behind o q base a.opens l.fields b n knows.0 fields) knows.2 f in
          record {
            kind = r.kind;
            word = r.word;
            notes = r.notes;
            kids = r.kids;
            number = r.number;
            number_is = r.number_is;
            index = suc r.index;
            index_is = shift n r.index ∙ r.index_is;
            here = r.here;
            local = r.local;
            fields = r.fields;
            knows = r.knows;
            reaches = r.reaches;
          }
    ] where
      no-more : (n : ℕ) → suc n + 0 ≡ suc n
      no-more n = omega arith

      shift : (n m : ℕ) → suc n + suc m ≡ suc (suc n) + m
      shift n m = omega arith

-- what all kids from one on open, before what is seen there
pub all-opened : (o : List ℕ → Opened) (q : List ℕ) (out : Outside) (n : ℕ) (l : Local) (f : Forest) → Knows o true q out l (suc n) f →
    all_opens (nodes (decorate out l f)) ++ flat_map o (kids_before q n) ≡ flat_map o (kids_before q (n + count f))
unfolding decorate
all-opened o q out n l Nil knows = ap (λ (m : ℕ). flat_map o (kids_before q m)) (no-more n) where
  no-more : (n : ℕ) → n ≡ n + 0
  no-more n = omega arith
all-opened o q out n l (Cons k w ns ks ts) knows =
    let a : Attributes = first (decorate out l (Cons k w ns ks Nil)) in
    append_assoc (all_opens (nodes (decorate out (beside l k a) ts))) a.opens (flat_map o (kids_before q n))
    ∙ (λ z. all_opens (nodes (decorate out (beside l k a) ts)) ++ (sym (knows.0 refl) z ++ flat_map o (kids_before q n)))
    ∙ all-opened o q out (suc n) (beside l k a) ts knows.2
    ∙ ap (λ (m : ℕ). flat_map o (kids_before q m)) (shift n (count ts)) where
      shift : (n m : ℕ) → suc n + m ≡ n + suc m
      shift n m = omega arith
