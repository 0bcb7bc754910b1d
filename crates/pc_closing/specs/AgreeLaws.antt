-- Whether a shape is whole depends only on what the table has at the places that are reached from it.
use Rattle.std.proofs.Common.{◌≡◌, ℕ, Bool, true, false, if◌then◌else◌, List, [], Option, Some, None, option_map, refl, sym, ◌∙◌, ap, subst}
use Rattle.pc_types.specs.Shapes.{Owner, Shape, IntegerType, BooleanType, CharType, NilType, NoMembers, MembersType, TextType, EnumeratedType, SubrangeType, ArrayType, RecordType, SetType, PointerType, Fields, LastField, FieldOf, Domain, Typed}
use Rattle.pc_types.specs.Domains.{domain_in, stands_in, named_in, named_in_fields, named_in_option, reached}
use Rattle.pc_closed.specs.Reached.{Covers}
use Rattle.pc_closed.specs.PlaceLaws.{stands-front, stands-back, stands-first, named-at}
use Rattle.pc_closed.specs.WalkLaws.{reached-law}
use Rattle.pc_closed.specs.LeadLaws.{reached-whole}
use Rattle.pc_closing.specs.Whole.{is_whole_in, IsKnown, EachField, LeadsOn, AgreeAt, closed_shape, AgreeLaw}
use Rattle.pc_closing.specs.WholeLaws.{whole-from, whole-parts, IsCovered, covered-leads, reached-covered}

-- what is whole by the first table is whole by the second
forwards : (a b : List Domain) (t : Shape) → AgreeAt a b t → is_whole_in a t ≡ true → is_whole_in b t ≡ true
forwards a b t same w =
    whole-from (IsCovered a (reached a t)) b
    (covered-leads a b (reached a t) (λ o n s. subst (IsKnown (IsCovered a (reached a t))) (same o n s) (reached-covered a t o n s (reached-whole a t o n w s))))
    t (reached-law.all a t).first

-- a shape that is whole by the second table, and names only places that are reached by the first
record IsBoth (a b : List Domain) (t u : Shape) : Type 0 where
  whole : is_whole_in b u ≡ true
  covered : IsCovered a (reached a t) u

both-fields : (a b : List Domain) (t : Shape) (fs : Fields) → EachField (λ s. is_whole_in b s ≡ true) fs → Covers (reached a t) (named_in_fields a fs) → EachField (IsBoth a b t) fs
both-fields a b t LastField w c = tt
both-fields a b t (FieldOf n u fs) w c = (
  record { whole = w.0; covered = λ o m e. c o m (stands-front (named_in a u) (named_in_fields a fs) o m e) },
  both-fields a b t fs w.1 (λ o m e. c o m (stands-back (named_in a u) (named_in_fields a fs) o m e)),
)

-- the shape at a place that is reached
both-at : (a b : List Domain) (t : Shape) → AgreeAt a b t → (o : Owner) (n : List ℕ) → stands_in (reached a t) o n ≡ true → IsKnown (λ s. is_whole_in b s ≡ true) (domain_in b o n) →
    IsKnown (IsBoth a b t) (domain_in a o n)
both-at a b t same o n s k =
    by (domain_in a o n) (subst (IsKnown (λ u. is_whole_in b u ≡ true)) (sym (same o n s)) k)
    (named-at a (reached a t) (reached a t) o n (reached-law.all a t).from (reached-law.all a t).further s) where
      by : (x : Option Shape) → IsKnown (λ u. is_whole_in b u ≡ true) x → Covers (reached a t) (named_in_option a x) → IsKnown (IsBoth a b t) x
      by None w c = w
      by (Some u) w c = record { whole = w; covered = c }

both-leads : (a b : List Domain) (t : Shape) → AgreeAt a b t → (u : Shape) → LeadsOn (λ s. is_whole_in b s ≡ true) b u → IsCovered a (reached a t) u → LeadsOn (IsBoth a b t) a u
both-leads a b t same (PointerType d o n) l c =
    record { element = tt; fields = tt; target = both-at a b t same o n (c o n (stands-first (record { owner = o; name = n; shape = domain_in a o n }) [])) l.target }
both-leads a b t same (SubrangeType d h x y) l c = record { element = tt; fields = tt; target = tt }
both-leads a b t same (ArrayType d q i e) l c = record { element = record { whole = l.element; covered = c }; fields = tt; target = tt }
both-leads a b t same (RecordType d q fs) l c = record { element = tt; fields = both-fields a b t fs l.fields c; target = tt }
both-leads a b t same IntegerType l c = record { element = tt; fields = tt; target = tt }
both-leads a b t same BooleanType l c = record { element = tt; fields = tt; target = tt }
both-leads a b t same CharType l c = record { element = tt; fields = tt; target = tt }
both-leads a b t same NilType l c = record { element = tt; fields = tt; target = tt }
both-leads a b t same NoMembers l c = record { element = tt; fields = tt; target = tt }
both-leads a b t same (MembersType h) l c = record { element = tt; fields = tt; target = tt }
both-leads a b t same (TextType n) l c = record { element = tt; fields = tt; target = tt }
both-leads a b t same (EnumeratedType d ns) l c = record { element = tt; fields = tt; target = tt }
both-leads a b t same (SetType d q h) l c = record { element = tt; fields = tt; target = tt }

-- what is whole by the second table is whole by the first
backwards : (a b : List Domain) (t : Shape) → AgreeAt a b t → is_whole_in b t ≡ true → is_whole_in a t ≡ true
backwards a b t same w =
    whole-from (IsBoth a b t) a (λ u h. both-leads a b t same u (whole-parts b u h.whole) h.covered) t
    (record { whole = w; covered = (reached-law.all a t).first })

-- two tests that hold together are equal
pub equal-tests : (x y : Bool) → (x ≡ true → y ≡ true) → (y ≡ true → x ≡ true) → x ≡ y
equal-tests true y f g = sym (f refl)
equal-tests false true f g = g refl
equal-tests false false f g = refl

agree-whole : (a b : List Domain) (t : Shape) → AgreeAt a b t → is_whole_in a t ≡ is_whole_in b t
agree-whole a b t same = equal-tests (is_whole_in a t) (is_whole_in b t) (forwards a b t same) (backwards a b t same)

-- the shape of a closed type
pub shape-of : (ds : List Domain) (t : Shape) → closed_shape ds (Some t) ≡ (if is_whole_in ds t then Some t else None)
shape-of ds t = by (is_whole_in ds t) where
  by : (w : Bool) → option_map (λ (x : Typed). x.shape) (if w then Some (record { shape = t; domains = reached ds t }) else None) ≡ (if w then Some t else None)
  by true = refl
  by false = refl

agree-closed : (a b : List Domain) (t : Shape) → AgreeAt a b t → closed_shape a (Some t) ≡ closed_shape b (Some t)
agree-closed a b t same = shape-of a t ∙ ap (λ (w : Bool). if w then Some t else None) (agree-whole a b t same) ∙ sym (shape-of b t)

-- this holds
pub agree-law : AgreeLaw
agree-law = record { whole = agree-whole; closed = agree-closed }
