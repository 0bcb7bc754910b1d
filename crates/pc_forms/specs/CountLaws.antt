-- How many kids a node has that is no list.
use Rattle.std.proofs.Common.{◌≡◌, ℕ, Bool, true, false, nat_le, ◌==◌, if◌then◌else◌, length, Some, None, refl, sym, ap, ◌∷◌, ◌∙◌}
use Rattle.std.proofs.lemmas.Bool.{and_parts, eqb-true}
use Rattle.pc_syntax.specs.Plain.{Forest, Nil, Cons, Plain, count, kinds, trees_of, kids_of}
use Rattle.pc_syntax.specs.Slots.{is_list, least_of, places_of}
use Rattle.pc_syntax.specs.Fits.{word_fits, takes_count, takes_from, kinds_of}
use Rattle.pc_syntax.specs.FitsLayoutLaws.{layout-forest}
use Rattle.pc_syntax.specs.PartsLaws.{length-kids_of}
use Rattle.pc_syntax.specs.WellFormed.{IsProper}
use Rattle.pc_forms.specs.FormClasses.{fixed_count}

counted : (b : Bool) (least many n c : ℕ) → (if b then nat_le (if b then least else many) c else c == (if b then least else many)) ≡ true → (if b then None else Some many) ≡ Some n → c ≡ n
counted true least many n c e f = cc
counted false least many n c e f =
    let same : many ≡ n = cc in
    eqb-true c many e ∙ same

-- a node that is no list has as many kids as its kind says
pub fixed_length : (p : Plain) (n : ℕ) → IsProper p → fixed_count p.kind ≡ Some n → length (kids_of p) ≡ n
fixed_length p n proper fixed =
    let a = and_parts (word_fits p.kind p.word) _ (sym (layout-forest p.kind p.word p.kids) ∙ proper.sound.0) in
    let b = and_parts (takes_count p.kind (count p.kids)) _ a.1 in
    length-kids_of p ∙ counted (is_list p.kind) (least_of p.kind) (length (places_of p.kind)) n (count p.kids) b.0 fixed

kinds-trees_of : (ts : Forest) → kinds ts ≡ kinds_of (trees_of ts)
kinds-trees_of Nil = refl
kinds-trees_of (Cons k w ns ks ts) = ap (λ js. k ∷ js) (kinds-trees_of ts)

-- its kids are of their classes
pub fixed_takes : (p : Plain) → IsProper p → takes_from p.kind 0 (kinds_of (kids_of p)) ≡ true
unfolding kids_of
fixed_takes p proper =
    let a = and_parts (word_fits p.kind p.word) _ (sym (layout-forest p.kind p.word p.kids) ∙ proper.sound.0) in
    let b = and_parts (takes_count p.kind (count p.kids)) _ a.1 in
    sym (ap (takes_from p.kind 0) (kinds-trees_of p.kids)) ∙ b.1
