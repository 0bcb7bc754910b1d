-- What stands at the beginning of a comment, whatever stands behind it.
use Rattle.std.proofs.Common.{◌≡◌, ℕ, ◌+◌, true, false, not, ◌||◌, ◌&&◌, ◌==◌, inl, inr, List, [], ◌∷◌, ◌++◌, length, refl, ap, ◌∙◌, arith}
use Rattle.std.proofs.lemmas.Bool.{and_parts, or_cases, cases_Bool, not-true, not_from_false, eqb-true}
use Rattle.pc_syntax.specs.declared.lexeme.Lexeme.{Lexeme}
use Rattle.pc_syntax.specs.declared.lexeme.Lexeme.TheVariants as lexeme
use Rattle.pc_syntax.specs.Words.{ends_comment, is_comment}
use Rattle.pc_lex.specs.declared.front.Front.TheVariants.{Comment}
use Rattle.pc_lex.specs.Comments.{comment_after}
use Rattle.pc_lex.specs.Fronts.{front}
use Rattle.pc_pretty.proofs.Apart.{extends}
use Rattle.pc_pretty.proofs.FrontOf.{stops}

-- the rest of a comment, behind so many bytes of it
comment_runs : (bs rest : List ℕ) (n : ℕ) → ends_comment bs ≡ true → comment_after n (bs ++ rest) ≡ Comment (n + length bs)
unfolding comment_after
comment_runs [] rest n h = cc
comment_runs (b ∷ []) rest n h = rw h refl
comment_runs (b ∷ c ∷ []) rest n h =
    let both : (not (b == 125) ≡ true) × ((c == 125 || (b == 42 && c == 41)) ≡ true) = and_parts (not (b == 125)) (c == 125 || (b == 42 && c == 41)) h in
    let size : (n + 1) + 1 ≡ n + 2 = omega arith in
    elim (cases_Bool (b == 42 && c == 41)) [
      | inl e ↦ rw (not-true (b == 125) both.0, e) refl
      | inr e ↦ let last : (c == 125 || false) ≡ true = rw e at both.1 in
          elim (or_cases (c == 125) false last) [
            | inl f ↦ rw (not-true (b == 125) both.0, e, f) (ap Comment size)
            | inr f ↦ cc
          ]
    ]
comment_runs (b ∷ c ∷ d ∷ bs) rest n h =
    let parts : ((not (b == 125) && not (b == 42 && c == 41)) ≡ true) × (ends_comment (c ∷ d ∷ bs) ≡ true) = and_parts (not (b == 125) && not (b == 42 && c == 41)) (ends_comment (c ∷ d ∷ bs)) h in
    let marks : (not (b == 125) ≡ true) × (not (b == 42 && c == 41) ≡ true) = and_parts (not (b == 125)) (not (b == 42 && c == 41)) parts.0 in
    let size : (n + 1) + length (c ∷ d ∷ bs) ≡ n + length (b ∷ c ∷ d ∷ bs) = omega arith in
    rw (not-true (b == 125) marks.0, not-true (b == 42 && c == 41) marks.1) (comment_runs (c ∷ d ∷ bs) rest (n + 1) parts.1 ∙ ap Comment size)

brace_front : (b : ℕ) (bs : List ℕ) → b ≡ 123 → front (b ∷ bs) ≡ comment_after 1 bs
unfolding front
brace_front b bs e = rw e refl

star_front : (b c : ℕ) (bs : List ℕ) → b ≡ 40 → c ≡ 42 → front (b ∷ c ∷ bs) ≡ comment_after 2 bs
unfolding front
star_front b c bs e f = rw (e, f) refl

-- a comment, whatever stands behind it
pub comment_front : (n rest : List ℕ) → is_comment n ≡ true → front (n ++ rest) ≡ Comment (length n)
unfolding is_comment
comment_front [] rest h = cc
comment_front (b ∷ []) rest h = cc
comment_front (b ∷ c ∷ bs) rest h = elim (or_cases (b == 123 && ends_comment (c ∷ bs)) (b == 40 && c == 42 && ends_comment bs) h) [
  | inl e ↦
      let both : ((b == 123) ≡ true) × (ends_comment (c ∷ bs) ≡ true) = and_parts (b == 123) (ends_comment (c ∷ bs)) e in
      let size : 1 + length (c ∷ bs) ≡ length (b ∷ c ∷ bs) = omega arith in
      brace_front b ((c ∷ bs) ++ rest) (eqb-true b 123 both.0) ∙ comment_runs (c ∷ bs) rest 1 both.1 ∙ ap Comment size
  | inr e ↦
      let parts : ((b == 40 && c == 42) ≡ true) × (ends_comment bs ≡ true) = and_parts (b == 40 && c == 42) (ends_comment bs) e in
      let marks : ((b == 40) ≡ true) × ((c == 42) ≡ true) = and_parts (b == 40) (c == 42) parts.0 in
      let size : 2 + length bs ≡ length (b ∷ c ∷ bs) = omega arith in
      star_front b c (bs ++ rest) (eqb-true b 40 marks.0) (eqb-true c 42 marks.1) ∙ comment_runs bs rest 2 parts.1 ∙ ap Comment size
]

-- no opening mark of a comment extends a symbol
mark_extends : (x : Lexeme) → (extends x 123 ≡ false) × (extends x 40 ≡ false)
unfolding extends
mark_extends (lexeme.Hole t) = (refl, refl)
mark_extends _ = (refl, refl)

pub comment_stops : (x : Lexeme) (n rest : List ℕ) → is_comment n ≡ true → stops x (n ++ rest) ≡ true
unfolding is_comment
comment_stops x [] rest h = cc
comment_stops x (b ∷ []) rest h = cc
comment_stops x (b ∷ c ∷ bs) rest h = elim (or_cases (b == 123 && ends_comment (c ∷ bs)) (b == 40 && c == 42 && ends_comment bs) h) [
  | inl e ↦ not_from_false (extends x b) (ap (extends x) (eqb-true b 123 (and_parts (b == 123) (ends_comment (c ∷ bs)) e).0) ∙ (mark_extends x).0)
  | inr e ↦ not_from_false (extends x b) (ap (extends x) (eqb-true b 40 (and_parts (b == 40) (c == 42) (and_parts (b == 40 && c == 42) (ends_comment bs) e).0).0) ∙ (mark_extends x).1)
]
