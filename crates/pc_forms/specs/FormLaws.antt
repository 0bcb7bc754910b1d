-- What holds of the form of a proper tree, and what holds of a proper tree since it holds of its form.
use Rattle.std.proofs.Common.{◌≡◌, ℕ, List, ◌+◌, ◌≤◌, true, sum_by, refl, sym, ◌∙◌, arith}
use Rattle.std.proofs.lemmas.Bool.{and_parts}
use Rattle.pc_syntax.specs.declared.kind.Kind.{Kind}
use Rattle.pc_syntax.specs.declared.kind.Kind.TheVariants.{Forward, Cnumber, Cstring, Number, Text, Name}
use Rattle.pc_syntax.specs.Plain.{Forest, Nil, Cons, Plain, trees_of, kids_of}
use Rattle.pc_syntax.specs.Fits.{word_fits}
use Rattle.pc_syntax.specs.FitsLayoutLaws.{layout-forest}
use Rattle.pc_syntax.specs.PartsLaws.{size_of-kid, size_of-kids}
use Rattle.pc_syntax.specs.Slots.{is_list}
use Rattle.pc_syntax.specs.WellFormed.{WellFormed, IsProper, size_in, size_of, depth_in, depth_limit, size_limit}
use Rattle.pc_forms.specs.CountLaws.{fixed_length, fixed_takes}
use Rattle.pc_forms.specs.EveryLaws.{Every-from}
use Rattle.pc_forms.specs.Form.{form_from, form_of, nothing}
use Rattle.pc_forms.specs.FormClasses.{Every, HasKids}
use Rattle.pc_forms.specs.FormClassesLaws.{HasKids-from}
use Rattle.pc_forms.specs.FormKids.{kids_in}
use Rattle.pc_forms.specs.FormKidsLaws.{kids_in-form_from, kind_in-form_from}
use Rattle.pc_forms.specs.FormKind.{kind_in}
use Rattle.pc_forms.specs.FormWords.{word_fits_in}

-- the form of a node has a word that it may have, where the node's kind may
word_fits_in-form_from : {A : Type 0} (k : Kind) (w : List ℕ) (ks : List A) (d : A) → word_fits k w ≡ true → word_fits_in (form_from k w ks d) ≡ true
word_fits_in-form_from Forward w ks d e = e
word_fits_in-form_from Cnumber w ks d e = e
word_fits_in-form_from Cstring w ks d e = e
word_fits_in-form_from Number w ks d e = e
word_fits_in-form_from Text w ks d e = e
word_fits_in-form_from Name w ks d e = e
word_fits_in-form_from _ w ks d e = refl

-- a form has the kind of its tree
pub kind_in-form_of : (p : Plain) → kind_in (form_of p) ≡ p.kind
unfolding form_of
kind_in-form_of p = kind_in-form_from p.kind p.word (kids_of p) nothing

module _ (p : Plain) (proper : IsProper p) where
  -- it has the tree's kids
  pub kids_in-form_of : kids_in (form_of p) ≡ kids_of p
  unfolding form_of
  kids_in-form_of = kids_in-form_from p.kind p.word (kids_of p) nothing (λ n. fixed_length p n proper)

  -- each is smaller than the tree
  pub smaller-form_of : Every (λ k. size_of k + 1 ≤ size_of p) (kids_in (form_of p))
  smaller-form_of = rw kids_in-form_of (Every-from (λ k. size_of k + 1 ≤ size_of p) (kids_of p) (λ i k l e. size_of-kid p i k l e))

  -- and of its class
  pub classes-form_of : HasKids (kind_in (form_of p)) (kids_in (form_of p))
  classes-form_of = rw (kids_in-form_of, kind_in-form_of p) (HasKids-from p.kind (kids_of p) (is_list p.kind) refl (fixed_takes p proper))

  -- the sizes add up
  pub size-form_of : size_of p ≡ 1 + sum_by size_of (kids_in (form_of p))
  size-form_of = rw kids_in-form_of (size_of-kids p)

  -- the tree's word is one that its kind may have
  pub fits-word : word_fits p.kind p.word ≡ true
  fits-word =
      let a = and_parts (word_fits p.kind p.word) _ (sym (layout-forest p.kind p.word p.kids) ∙ proper.sound.0) in
      a.0

  -- and the form's word is one that it may have
  pub word-form_of : word_fits_in (form_of p) ≡ true
  unfolding form_of
  word-form_of = word_fits_in-form_from p.kind p.word (kids_of p) nothing fits-word

-- what holds of a proper tree where it holds of the kids of its form holds of every proper tree
module _ (R : Plain → Type 0) (step : (p : Plain) → IsProper p → Every R (kids_in (form_of p)) → R p) where
  all_by_form : (ts : Forest) → WellFormed ts → depth_in ts ≤ depth_limit → size_in ts ≤ size_limit → Every R (trees_of ts)
  unfolding depth_in size_in kids_of
  all_by_form Nil h d s = tt
  all_by_form (Cons k w ns ks ts) h d s =
      let p : Plain = record { kind = k; word = w; notes = ns; kids = ks } in
      let proper : IsProper p = record { sound = (h.0, h.1, h.2, h.3, tt); shallow = omega arith; small = omega arith } in
      (step p proper (rw (kids_in-form_of p proper) (all_by_form ks h.3 (omega arith) (omega arith))), all_by_form ts h.4 (omega arith) (omega arith))

  pub by_form : (p : Plain) → IsProper p → R p
  unfolding depth_in size_in kids_of
  by_form p proper = step p proper (rw (kids_in-form_of p proper) (all_by_form p.kids proper.sound.3 (omega (arith, proper.shallow)) (omega (arith, proper.small))))

-- trees in a row are proper
proper-trees : (ts : Forest) → WellFormed ts → depth_in ts ≤ depth_limit → size_in ts ≤ size_limit → Every IsProper (trees_of ts)
unfolding depth_in size_in
proper-trees Nil h d s = tt
proper-trees (Cons k w ns ks ts) h d s =
    (record { sound = (h.0, h.1, h.2, h.3, tt); shallow = omega arith; small = omega arith }, proper-trees ts h.4 (omega arith) (omega arith))

-- the kids of a proper tree are proper
pub proper-kids_of : (p : Plain) → IsProper p → Every IsProper (kids_of p)
unfolding kids_of
proper-kids_of p proper = proper-trees p.kids proper.sound.3 (omega (arith, proper.shallow)) (omega (arith, proper.small))

pub proper-form_of : (p : Plain) → IsProper p → Every IsProper (kids_in (form_of p))
proper-form_of p proper = rw (kids_in-form_of p proper) (proper-kids_of p proper)
