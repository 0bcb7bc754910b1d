-- What is seen behind the accesses of a with, where their records are open: lemmas.
use Rattle.std.proofs.Common.{◌≡◌, ◌++◌, ℕ, List, [], ◌∷◌, Bool, true, if◌then◌else◌, refl, ap, sym, ◌∙◌, subst, append_assoc}
use Rattle.pc_syntax.specs.Plain.{Forest, Plain}
use Rattle.pc_syntax.specs.declared.kind.Kind.{Kind}
use Rattle.pc_syntax.specs.declared.kind.Kind.TheVariants as kind
use Rattle.pc_forms.specs.FormClasses.{Every}
use Rattle.pc_types.specs.Shapes.{Typed}
use Rattle.pc_rules.specs.Meanings.{Local, Outside, find, entry_of, field_or, define_all}
use Rattle.pc_rules.specs.Attributes.{Attributes, nodes}
use Rattle.pc_rules.specs.HandedOn.{all_opens}
use Rattle.pc_rules.specs.Places.{inner, beside}
use Rattle.pc_environment.specs.Decorating.{attributes_at, place_behind, place_after, marks_of}
use Rattle.pc_environment.specs.Sight.{Sight, sight_of, is_body}
use Rattle.pc_environment.specs.SightLaws.{sight-inner}
use Rattle.pc_environment.specs.QuietLaws.{body-defines}
use Rattle.pc_environment.specs.RowLaws.{SeesFrom}
use Rattle.pc_sightings.specs.OpenedLaws.{entry_of-append, field_or-first, find-opened}
use Rattle.pc_sightings.specs.Withs.{opened_sight, SeesWith}

-- fields that were opened one after the other, the later ones first
pub opened_sight-append : (a b : List (List ℕ × (Typed × Bool))) (s : Sight) → opened_sight a (opened_sight b s) ≡ opened_sight (a ++ b) s
opened_sight-append a b s =
    let same : (n : List ℕ) → field_or (entry_of a n) (field_or (entry_of b n) (s.means n)) ≡ field_or (entry_of (a ++ b) n) (s.means n) =
    λ n. sym (ap (λ e. field_or e (s.means n)) (entry_of-append a b n) ∙ field_or-first (entry_of a n) (entry_of b n) (s.means n)) in
    λ i. record { means = λ n. same n i; self = s.self; owner = s.owner; touched = s.touched }

opened-place : (out : Outside) (l : Local) (opens : List (List ℕ × (Typed × Bool))) → sight_of out (record l { fields = opens ++ l.fields }) ≡ opened_sight opens (sight_of out l)
opened-place out l opens = λ i. record { means = λ n. find-opened out l opens n i; self = l.self; owner = l.owner; touched = out.touched }

-- behind a node that declares nothing, where it opens its fields
behind-opened : (out : Outside) (l : Local) (k : Kind) (a : Attributes) → is_body k ≡ true → a.defines ≡ [] → l.opening ≡ true →
    sight_of out (beside l k a) ≡ sight_of out (record l { fields = a.opens ++ l.fields })
unfolding find
behind-opened out l kind.Cnumber a e d o = λ i. sight_of out (record (define_all l (d i)) { fields = if o i then a.opens ++ l.fields else l.fields })
behind-opened out l kind.Cstring a e d o = λ i. sight_of out (record (define_all l (d i)) { fields = if o i then a.opens ++ l.fields else l.fields })
behind-opened out l kind.Cname a e d o = λ i. sight_of out (record (define_all l (d i)) { fields = if o i then a.opens ++ l.fields else l.fields })
behind-opened out l kind.Csign a e d o = λ i. sight_of out (record (define_all l (d i)) { fields = if o i then a.opens ++ l.fields else l.fields })
behind-opened out l kind.Empty a e d o = λ i. sight_of out (record (define_all l (d i)) { fields = if o i then a.opens ++ l.fields else l.fields })
behind-opened out l kind.Assign a e d o = λ i. sight_of out (record (define_all l (d i)) { fields = if o i then a.opens ++ l.fields else l.fields })
behind-opened out l kind.Proc a e d o = λ i. sight_of out (record (define_all l (d i)) { fields = if o i then a.opens ++ l.fields else l.fields })
behind-opened out l kind.Compound a e d o = λ i. sight_of out (record (define_all l (d i)) { fields = if o i then a.opens ++ l.fields else l.fields })
behind-opened out l kind.If a e d o = λ i. sight_of out (record (define_all l (d i)) { fields = if o i then a.opens ++ l.fields else l.fields })
behind-opened out l kind.Ifelse a e d o = λ i. sight_of out (record (define_all l (d i)) { fields = if o i then a.opens ++ l.fields else l.fields })
behind-opened out l kind.Case a e d o = λ i. sight_of out (record (define_all l (d i)) { fields = if o i then a.opens ++ l.fields else l.fields })
behind-opened out l kind.Arm a e d o = λ i. sight_of out (record (define_all l (d i)) { fields = if o i then a.opens ++ l.fields else l.fields })
behind-opened out l kind.Repeat a e d o = λ i. sight_of out (record (define_all l (d i)) { fields = if o i then a.opens ++ l.fields else l.fields })
behind-opened out l kind.While a e d o = λ i. sight_of out (record (define_all l (d i)) { fields = if o i then a.opens ++ l.fields else l.fields })
behind-opened out l kind.For a e d o = λ i. sight_of out (record (define_all l (d i)) { fields = if o i then a.opens ++ l.fields else l.fields })
behind-opened out l kind.With a e d o = λ i. sight_of out (record (define_all l (d i)) { fields = if o i then a.opens ++ l.fields else l.fields })
behind-opened out l kind.Ref a e d o = λ i. sight_of out (record (define_all l (d i)) { fields = if o i then a.opens ++ l.fields else l.fields })
behind-opened out l kind.Index a e d o = λ i. sight_of out (record (define_all l (d i)) { fields = if o i then a.opens ++ l.fields else l.fields })
behind-opened out l kind.Select a e d o = λ i. sight_of out (record (define_all l (d i)) { fields = if o i then a.opens ++ l.fields else l.fields })
behind-opened out l kind.Deref a e d o = λ i. sight_of out (record (define_all l (d i)) { fields = if o i then a.opens ++ l.fields else l.fields })
behind-opened out l kind.Number a e d o = λ i. sight_of out (record (define_all l (d i)) { fields = if o i then a.opens ++ l.fields else l.fields })
behind-opened out l kind.Text a e d o = λ i. sight_of out (record (define_all l (d i)) { fields = if o i then a.opens ++ l.fields else l.fields })
behind-opened out l kind.Nil a e d o = λ i. sight_of out (record (define_all l (d i)) { fields = if o i then a.opens ++ l.fields else l.fields })
behind-opened out l kind.Call a e d o = λ i. sight_of out (record (define_all l (d i)) { fields = if o i then a.opens ++ l.fields else l.fields })
behind-opened out l kind.Parens a e d o = λ i. sight_of out (record (define_all l (d i)) { fields = if o i then a.opens ++ l.fields else l.fields })
behind-opened out l kind.Not a e d o = λ i. sight_of out (record (define_all l (d i)) { fields = if o i then a.opens ++ l.fields else l.fields })
behind-opened out l kind.Setcon a e d o = λ i. sight_of out (record (define_all l (d i)) { fields = if o i then a.opens ++ l.fields else l.fields })
behind-opened out l kind.Mul a e d o = λ i. sight_of out (record (define_all l (d i)) { fields = if o i then a.opens ++ l.fields else l.fields })
behind-opened out l kind.Add a e d o = λ i. sight_of out (record (define_all l (d i)) { fields = if o i then a.opens ++ l.fields else l.fields })
behind-opened out l kind.Sign a e d o = λ i. sight_of out (record (define_all l (d i)) { fields = if o i then a.opens ++ l.fields else l.fields })
behind-opened out l kind.Rel a e d o = λ i. sight_of out (record (define_all l (d i)) { fields = if o i then a.opens ++ l.fields else l.fields })
behind-opened out l kind.Width a e d o = λ i. sight_of out (record (define_all l (d i)) { fields = if o i then a.opens ++ l.fields else l.fields })
behind-opened out l kind.Span a e d o = λ i. sight_of out (record (define_all l (d i)) { fields = if o i then a.opens ++ l.fields else l.fields })
behind-opened out l kind.Name a e d o = λ i. sight_of out (record (define_all l (d i)) { fields = if o i then a.opens ++ l.fields else l.fields })
behind-opened out l kind.Args a e d o = λ i. sight_of out (record (define_all l (d i)) { fields = if o i then a.opens ++ l.fields else l.fields })
behind-opened out l kind.Labels a e d o = λ i. sight_of out (record (define_all l (d i)) { fields = if o i then a.opens ++ l.fields else l.fields })
behind-opened out l kind.Exprs a e d o = λ i. sight_of out (record (define_all l (d i)) { fields = if o i then a.opens ++ l.fields else l.fields })
behind-opened out l kind.Accesses a e d o = λ i. sight_of out (record (define_all l (d i)) { fields = if o i then a.opens ++ l.fields else l.fields })
behind-opened out l kind.Members a e d o = λ i. sight_of out (record (define_all l (d i)) { fields = if o i then a.opens ++ l.fields else l.fields })
behind-opened out l kind.Stmts a e d o = λ i. sight_of out (record (define_all l (d i)) { fields = if o i then a.opens ++ l.fields else l.fields })
behind-opened out l kind.Arms a e d o = λ i. sight_of out (record (define_all l (d i)) { fields = if o i then a.opens ++ l.fields else l.fields })
behind-opened out l (kind.Hole s) a e d o = λ i. sight_of out (record l { fields = if o i then a.opens ++ l.fields else l.fields })
behind-opened out l k a e d o = cc

-- ---- along the accesses of a with

-- at the first kid of a with nothing is open yet
pub SeesWith-first : (out : Outside) (l : Local) (s : Sight) (ks : Forest) → SeesFrom out l s → SeesWith out (inner l kind.With ks) [] s
SeesWith-first out l s ks h = record { sight = sight-inner out l kind.With ks refl ∙ h.sight; opening = refl }

-- at the first access what was open is open
pub SeesWith-inner : (out : Outside) (l : Local) (opens : List (List ℕ × (Typed × Bool))) (s : Sight) (ks : Forest) → SeesWith out l opens s → SeesWith out (inner l kind.Accesses ks) opens s
SeesWith-inner out l opens s ks h = record { sight = sight-inner out l kind.Accesses ks refl ∙ h.sight; opening = refl }

-- behind an access, or behind all of them, its fields are open, too
pub SeesWith-behind : (out : Outside) (l : Local) (opens : List (List ℕ × (Typed × Bool))) (s : Sight) (t : Plain) → is_body t.kind ≡ true → SeesWith out l opens s →
    SeesWith out (place_behind out l t) ((attributes_at out l t).opens ++ opens) s
SeesWith-behind out l opens s t b h = record {
  sight =
      behind-opened out l t.kind (attributes_at out l t) b (body-defines out l t b) h.opening
      ∙ opened-place out l (attributes_at out l t).opens
      ∙ ap (opened_sight (attributes_at out l t).opens) h.sight
      ∙ opened_sight-append (attributes_at out l t).opens opens s;
  opening = h.opening;
}

-- behind several accesses
pub SeesWith-after : (out : Outside) (l : Local) (opens : List (List ℕ × (Typed × Bool))) (s : Sight) (ts : List Plain) → Every (λ t. is_body t.kind ≡ true) ts → SeesWith out l opens s →
    SeesWith out (place_after out l ts) (all_opens (nodes (marks_of out l ts)) ++ opens) s
SeesWith-after out l opens s [] b h = h
SeesWith-after out l opens s (t ∷ ts) b h =
    subst (λ (o : List (List ℕ × (Typed × Bool))). SeesWith out (place_after out (place_behind out l t) ts) o s)
    (sym (append_assoc (all_opens (nodes (marks_of out (place_behind out l t) ts))) (attributes_at out l t).opens opens))
    (SeesWith-after out (place_behind out l t) ((attributes_at out l t).opens ++ opens) s ts b.1 (SeesWith-behind out l opens s t b.0 h))
