-- What a turn of the loop needs and leaves.
use Rattle.std.proofs.Common.{◌≡◌, ℕ, zero, suc, ◌+◌, ◌-◌, ◌<◌, ◌≤◌, ◌⊎◌, inl, inr, nat_le, Bool, true, false, if◌then◌else◌, List, [], ◌∷◌, Option, Some, None, length, drop, refl, ap, sym, ◌∙◌, add-one, arith}
use Rattle.std.proofs.lemmas.Bool.{leb-true, leb-false}
use Rattle.pc_syntax.specs.declared.lexeme.Lexeme.{Lexeme}
use Rattle.pc_syntax.specs.declared.lexeme.Lexeme.TheVariants as lexeme
use Rattle.pc_syntax.specs.declared.sort.Sort.{Sort}
use Rattle.pc_syntax.specs.declared.class.Class.{Class}
use Rattle.pc_syntax.specs.Plain.{Plain}
use Rattle.pc_syntax.specs.Symbols.{Sym}
use Rattle.pc_syntax.specs.WellFormed.{depth_of, size_of, depth_limit, size_limit}
use Rattle.pc_syntax.specs.Measured.{level_count, node_count}
use Rattle.pc_lex.specs.declared.symbol.Symbol.{Symbol}
use Rattle.pc_lex.specs.declared.symbol.Lexed.{Lexed}
use Rattle.pc_lex.specs.Views.{IsLexed, plain_symbols, syms}
use Rattle.pc_lex.specs.Proper as lexed
use Rattle.pc_lex.specs.ReliedLaws.{Spells-proper}
use Rattle.pc_parse.specs.declared.rows.Cut.{Cut}
use Rattle.pc_parse.specs.declared.machine.Position.{Position}
use Rattle.pc_parse.specs.declared.machine.Position.TheVariants as position
use Rattle.pc_parse.specs.Lookahead.{look, word_at, after}
use Rattle.pc_parse.specs.Proper.{is_empty, proper, Proper}
use Rattle.pc_parse.specs.Reading.{class_of, ReadsBare}
use Rattle.pc_parse.specs.Machine.{Opening, Stuck, plan}
use Rattle.pc_parse.specs.Runs.{make_plain, Go, exec}
use Rattle.pc_parse.specs.Rows.{cut, is_within}
use Rattle.pc_parse.specs.Measured as measured
use Rattle.pc_parse.specs.Answers.{IsWithin, IsUnfit}
use Rattle.pc_parse.specs.Ends.{IsFound}
use Rattle.pc_layout.specs.Noted.{unnoted}
use Rattle.pc_parse.proofs.Unnoted.{bare_reads}
use Rattle.pc_parse.proofs.NotedPartial.{begins_noted, begins_bare}
use Rattle.pc_parse.specs.Views.{frame_view, state_view, row_view, IsBuildable}
use Rattle.pc_parse.proofs.Energy.{is_some}
use Rattle.pc_parse.proofs.Entries.{&&_split, &&_join}
use Rattle.pc_parse.proofs.Reached.{Reached, energy_kept, moved_on, moved_falls, took_on, took_has, took_falls, ended_with, ended_none, stuck_at, refused_at, held_proper, closing_proper}
use Rattle.pc_parse.proofs.Sound.{sound}
use Rattle.pc_parse.proofs.Complete.{unique_sort, unfit_sort}
use Rattle.pc_parse.proofs.Least.{begins_before, begins_none}

-- the symbols from a place on
pub after_drop : (n : ℕ) (xs : List Symbol) → after (syms (plain_symbols (drop n xs))) ≡ syms (plain_symbols (drop (suc n) xs))
after_drop zero [] = refl
after_drop zero (x ∷ xs) = refl
after_drop (suc n) [] = refl
after_drop (suc n) (x ∷ xs) = after_drop n xs

pub has_drop : (n : ℕ) (xs : List Symbol) → is_some (look (syms (plain_symbols (drop n xs)))) ≡ true → n < length xs
has_drop zero [] h = cc
has_drop zero (x ∷ xs) h = omega arith
has_drop (suc n) [] h = cc
has_drop (suc n) (x ∷ xs) h = omega (arith, has_drop n xs h)

all_dropped : (n : ℕ) (xs : List Symbol) → n ≤ length xs → look (syms (plain_symbols (drop n xs))) ≡ None → n ≡ length xs
all_dropped zero [] le h = refl
all_dropped zero (x ∷ xs) le h = cc
all_dropped (suc n) [] le h = omega (arith, le)
all_dropped (suc n) (x ∷ xs) le h = ap suc (all_dropped n xs (omega (arith, le)) h)

pub length-plain_symbols : (xs : List Symbol) → length (plain_symbols xs) ≡ length xs
length-plain_symbols [] = refl
length-plain_symbols (x ∷ xs) = ap suc (length-plain_symbols xs)

length-syms : (xs : List Symbol) → length (syms (plain_symbols xs)) ≡ length xs
length-syms [] = refl
length-syms (x ∷ xs) = ap suc (length-syms xs)

syms-drop : (n : ℕ) (xs : List Symbol) → drop n (syms (plain_symbols xs)) ≡ syms (plain_symbols (drop n xs))
syms-drop zero xs = refl
syms-drop (suc n) [] = refl
syms-drop (suc n) (x ∷ xs) = syms-drop n xs

-- a turn of the loop: what is kept of a state that the machine reaches before the symbols from a place on, and what
-- the machine does there
pub record Turn (c : Class) (xs : List Symbol) (at : ℕ) (s : measured.State) (p : measured.Plan) : Type 0 where
  pub reached : Reached c (syms (plain_symbols xs)) s (syms (plain_symbols (drop at xs)))
  pub planned : p ≡ measured.plan c s (look (syms (plain_symbols (drop at xs)))) (word_at (syms (plain_symbols (drop at xs))))

pub turn : (c d : Class) (xs : List Symbol) (at : ℕ) (s : measured.State) (p : measured.Plan) (x : Option Lexeme) (w : List ℕ) (rest : List Symbol)
    → Reached c (syms (plain_symbols xs)) s (syms (plain_symbols (drop at xs))) → p ≡ measured.plan d s x w
    → d ≡ c → x ≡ look (syms (plain_symbols rest)) → w ≡ word_at (syms (plain_symbols rest)) → rest ≡ drop at xs → Turn c xs at s p
turn c d xs at s p x w rest r e root is_next is_word is_rest = record { reached = r; planned = rw (is_next, is_word, is_rest, root) at e }

module _ {c : Class} {xs : List Symbol} {at : ℕ} {s : measured.State} {p : measured.Plan} (t : Turn c xs at s p) where
  pub moved : (q : measured.State) → p ≡ measured.Stay q → Reached c (syms (plain_symbols xs)) q (syms (plain_symbols (drop at xs)))
  moved q e = moved_on c _ s _ t.reached p t.planned q e

  pub moved_less : (q : measured.State) (n : ℕ) → p ≡ measured.Stay q → energy_kept q n < energy_kept s n
  moved_less q n e = moved_falls c _ s _ t.reached p t.planned q n e

  pub took_one : (q : measured.State) → p ≡ measured.Take q → at < length xs
  took_one q e = has_drop at xs (took_has c _ s _ t.reached p t.planned q e)

  pub took : (q : measured.State) → p ≡ measured.Take q → Reached c (syms (plain_symbols xs)) q (syms (plain_symbols (drop (at + 1) xs)))
  took q e = rw (add-one, ← after_drop at xs) (took_on c _ s _ t.reached p t.planned q e)

  pub took_less : (q : measured.State) → p ≡ measured.Take q → energy_kept q (length xs - (at + 1)) < energy_kept s (length xs - at)
  took_less q e =
      let lt = took_one q e in
      let n : length xs - (at + 1) ≡ length xs - at - 1 = omega arith in
      rw n (took_falls c _ s _ t.reached p t.planned q (length xs - at) (omega (arith, lt)) e)

pub buildable : (c : Class) (input : List Sym) (p : Position) (fs : List measured.Frame) (ys : List Sym) → Proper input → Reached c input (state_view p fs) ys → IsBuildable p
buildable c input position.Opening fs ys clean r = tt
buildable c input (position.Within f) fs ys clean r = λ k m ends some. closing_proper c input (frame_view f) fs ys k m clean r ends some
buildable c input (position.Ended n) fs ys clean r = held_proper c input n.kind n.word.now (row_view n.kids) fs ys clean r

-- the tree with which the machine ends is the only one that has the symbols, and they are all taken
pub found : (s : Sort) (xs : List Symbol) (at : ℕ) (st : measured.State) (p : measured.Plan) (k : Cut) → Proper (syms (plain_symbols xs)) → at ≤ length xs → Turn (class_of s) xs at st p → p ≡ measured.End k
    → (t : Plain) × IsFound (class_of s) (plain_symbols xs) t × (k ≡ cut t) × (at ≡ length (plain_symbols xs))
found s xs at st p k clean within t e =
    let r = ended_with (class_of s) (syms (plain_symbols xs)) st _ t.reached p t.planned k e in
    let h : ReadsBare (class_of s) r.0 (syms (plain_symbols xs)) = sound (class_of s) (syms (plain_symbols xs)) r.1 r.0 clean r.2 in
    (r.0, record { reads = h; only = λ u i. unique_sort s r.0 u (syms (plain_symbols xs)) h i }, r.3, all_dropped at xs within (ended_none (class_of s) (syms (plain_symbols xs)) st _ t.reached p t.planned k e) ∙ sym (length-plain_symbols xs))

-- where the machine refuses a symbol, no tree has the symbols, and those up to that symbol are the first that begin no text
pub missed : (s : Sort) (xs : List Symbol) (at : ℕ) (st : measured.State) (p : measured.Plan) → Proper (syms (plain_symbols xs)) → at ≤ length xs → Turn (class_of s) xs at st p → p ≡ measured.Stuck
    → IsUnfit (class_of s) (plain_symbols xs) (at + 1)
missed s xs at st p clean within t e =
    let input = syms (plain_symbols xs) in
    let r = refused_at (class_of s) input st _ t.reached p t.planned e in
    let run : exec (class_of s) t.reached.count Opening input ≡ Go t.reached.state (drop at input) = rw (syms-drop at xs) t.reached.run in
    let stuck : plan make_plain (class_of s) t.reached.state (look (drop at input)) (word_at (drop at input)) ≡ Stuck =
    rw (syms-drop at xs) (stuck_at (class_of s) input st _ t.reached p t.planned e) in
    record {
      none = λ u h. unfit_sort s r.0 (unnoted u) input _ r.1 (bare_reads (class_of s) u input h);
      positive = omega arith;
      within = omega (arith, length-plain_symbols xs, within);
      begins = λ j lt. begins_noted (class_of s) _ (begins_before (class_of s) input t.reached.state t.reached.count at j clean run (omega (arith, length-syms xs, within)) lt);
      least = λ le b. begins_none s input t.reached.state t.reached.count at run stuck (omega (arith, length-syms xs, length-plain_symbols xs, le)) (begins_bare (class_of s) _ b);
    }

empty_true : (w : List ℕ) → w ≡ [] → is_empty w ≡ true
empty_true w e = ap is_empty e

proper_true : (x : Lexeme) (w : List ℕ) → lexed.IsProper x w → proper x w ≡ true
proper_true lexeme.Identifier w h = h
proper_true lexeme.Numeral w h = h
proper_true lexeme.Text w h = h
proper_true _ w h = empty_true w h

all_proper : (ys : List Sym) → lexed.Proper ys → Proper ys
all_proper [] h = tt
all_proper (y ∷ ys) h = (proper_true y.lexeme y.spelling h.0, all_proper ys h.1)

-- the symbols of a text that was lexed are spelled as symbols are
pub lexed_proper : (l : Lexed) → IsLexed l → Proper (syms (plain_symbols l.symbols.items))
lexed_proper l h = all_proper (syms (plain_symbols l.symbols.items)) (Spells-proper l.text.now (plain_symbols l.symbols.items) l.tail.items h)

module _ (t : Plain) (k : Cut) (e : k ≡ cut t) where
  kept_tree : k.tree ≡ (if is_within (depth_of t) (size_of t) then Some t else None)
  unfolding cut
  kept_tree = ap (λ (x : Cut). x.tree) e

  pub kept_depth : k.depth ≡ level_count t
  unfolding cut
  kept_depth = ap (λ (x : Cut). x.depth) e

  pub kept_size : k.size ≡ node_count t
  unfolding cut
  kept_size = ap (λ (x : Cut). x.size) e

-- from what is kept it is told whether the tree is within the limits
module _ (t : Plain) (k : Cut) (e : k ≡ cut t) where
  pub told_within : (u : Plain) → k.tree ≡ Some u → (u ≡ t) × IsWithin t
  told_within u h = go (is_within (depth_of t) (size_of t)) refl
    where
      go : (b : Bool) → is_within (depth_of t) (size_of t) ≡ b → (u ≡ t) × IsWithin t
      go true i =
          let p : Some u ≡ Some t = sym h ∙ kept_tree t k e ∙ ap (λ c. if c then Some t else None) i in
          let q : (nat_le (depth_of t) depth_limit ≡ true) × (nat_le (size_of t) size_limit ≡ true) = &&_split _ _ i in
          (cc, record { shallow = leb-true _ _ q.0; small = leb-true _ _ q.1 })
      go false i = let p : Some u ≡ None = sym h ∙ kept_tree t k e ∙ ap (λ c. if c then Some t else None) i in cc

  pub told_over : k.tree ≡ None → (depth_limit < depth_of t) ⊎ (size_limit < size_of t)
  told_over h = go (nat_le (depth_of t) depth_limit) (nat_le (size_of t) size_limit) refl refl
    where
      go : (b c : Bool) → nat_le (depth_of t) depth_limit ≡ b → nat_le (size_of t) size_limit ≡ c → (depth_limit < depth_of t) ⊎ (size_limit < size_of t)
      go false c i j = inl (leb-false (depth_of t) depth_limit i)
      go true false i j = inr (leb-false (size_of t) size_limit j)
      go true true i j =
          let w : is_within (depth_of t) (size_of t) ≡ true = &&_join _ _ i j in
          let p : None ≡ Some t = sym h ∙ kept_tree t k e ∙ ap (λ c. if c then Some t else None) w in cc
