-- Arguments one after the other: lemmas.
use Rattle.std.specs.Prelude.{◌≡◌, ℕ, ◌+◌, Bool, true, false, ◌||◌, ◌&&◌, if◌then◌else◌, List, [], ◌∷◌, ◌++◌, Option, Some, None, length, slice_get, suc, zero}
use Rattle.std.proofs.Common.{refl, ap, sym, ◌∙◌, append_assoc, append-nil, subst, arith}
use Rattle.pc_rules.specs.Attributes.{Entry, Node, at_kid, each_kid}
use Rattle.pc_rules.specs.Meanings as rules
use Rattle.pc_rules.specs.Arguments as rule
use Rattle.pc_rules.specs.Arguments.{head, tail}
use Rattle.pc_facts.specs.Known.{Known}
use Rattle.pc_facts.specs.Shows.{ShowsNode, ShowsArgument, ShowsFormals, AllShow}
use Rattle.pc_facts.specs.declared.sighting.Formal.{Formal}
use Rattle.pc_facts.specs.declared.facts.Argument.{Argument}
use Rattle.pc_call_rules.specs.Parameters.{ShowsFormal}

-- nodes that a list with a last one shows
pub record Last {X : Type 0} (shows : X → Node → Type 0) (gs : List X) (g : X) (ns : List Node) : Type 0 where
  pub front : List Node
  pub last : Node
  pub is : ns ≡ front ++ last ∷ []
  pub before : AllShow shows gs front
  pub here : shows g last

last-behind : {X : Type 0} (shows : X → Node → Type 0) (f : X) (gs : List X) (g : X) (n : Node) (ns : List Node) → shows f n → Last shows gs g ns → Last shows (f ∷ gs) g (n ∷ ns)
last-behind shows f gs g n ns h l = record { front = n ∷ l.front; last = l.last; is = ap (λ xs. n ∷ xs) l.is; before = (h, l.before); here = l.here }

pub last-shown : {X : Type 0} (shows : X → Node → Type 0) (gs : List X) (g : X) (ns : List Node) → AllShow shows (gs ++ g ∷ []) ns → Last shows gs g ns
last-shown shows [] g (n ∷ []) h = record { front = []; last = n; is = refl; before = tt; here = h.0 }
last-shown shows [] g (n ∷ m ∷ ns) h = absurd h.1
last-shown shows [] g [] h = absurd h
last-shown shows (f ∷ gs) g (n ∷ ns) h = last-behind shows f gs g n ns h.0 (last-shown shows gs g ns h.1)
last-shown shows (f ∷ gs) g [] h = absurd h

pub same-length : {X : Type 0} (shows : X → Node → Type 0) (gs : List X) (ns : List Node) → AllShow shows gs ns → length gs ≡ length ns
same-length shows [] [] h = refl
same-length shows (g ∷ gs) (n ∷ ns) h = ap suc (same-length shows gs ns h.1)
same-length shows [] (n ∷ ns) h = absurd h
same-length shows (g ∷ gs) [] h = absurd h

-- the number of the kid behind these, the first of which is kid i
abbrev pub number_at : ℕ → List Node → ℕ
number_at i [] = i
number_at i (m ∷ ms) = number_at (suc i) ms

pub number_at-length : (i : ℕ) (ms : List Node) → number_at i ms ≡ i + length ms
number_at-length i [] = omega arith
number_at-length i (m ∷ ms) = omega (arith, number_at-length (suc i) ms)

-- the formal parameter behind these
abbrev pub formal_at : List rules.Formal → List Node → Option rules.Formal
formal_at fs [] = head fs
formal_at fs (m ∷ ms) = formal_at (tail fs) ms

-- one more argument
pub arguments_entries-more : (fs : List rules.Formal) (i : ℕ) (ms : List Node) (m : Node) →
    rule.arguments_entries fs i (ms ++ m ∷ []) ≡ rule.arguments_entries fs i ms ++ at_kid (number_at i ms) (rule.argument_entries (formal_at fs ms) m)
arguments_entries-more fs i [] m = append-nil _
arguments_entries-more fs i (n ∷ ms) m =
    ap (λ x. at_kid i (rule.argument_entries (head fs) n) ++ x) (arguments_entries-more (tail fs) (suc i) ms m)
    ∙ sym (append_assoc (at_kid i (rule.argument_entries (head fs) n)) (rule.arguments_entries (tail fs) (suc i) ms) _)

pub each_kid-more : (entries : Node → List Entry) (i : ℕ) (ms : List Node) (m : Node) →
    each_kid entries i (ms ++ m ∷ []) ≡ each_kid entries i ms ++ at_kid (number_at i ms) (entries m)
each_kid-more entries i [] m = append-nil _
each_kid-more entries i (n ∷ ms) m =
    ap (λ x. at_kid i (entries n) ++ x) (each_kid-more entries (suc i) ms m)
    ∙ sym (append_assoc (at_kid i (entries n)) (each_kid entries (suc i) ms) _)

no-formal : (ms : List Node) → formal_at [] ms ≡ None
no-formal [] = refl
no-formal (m ∷ ms) = no-formal ms

shows-none : (k : Known) (f : Option rules.Formal) → f ≡ None → ShowsFormal k None f
shows-none k None e = tt
shows-none k (Some f) e = absurd cc

-- the formal parameter with the number of these
pub shows-formal : (k : Known) (fs : List Formal) (gs : List rules.Formal) (ms : List Node) → ShowsFormals k fs gs → ShowsFormal k (slice_get fs (length ms)) (formal_at gs ms)
shows-formal k [] [] ms h = shows-none k (formal_at [] ms) (no-formal ms)
shows-formal k (f ∷ fs) (g ∷ gs) [] h = (h.1, h.2)
shows-formal k (f ∷ fs) (g ∷ gs) (m ∷ ms) h = shows-formal k fs gs ms h.4
shows-formal k [] (g ∷ gs) ms h = absurd h
shows-formal k (f ∷ fs) [] ms h = absurd h

pub arguments-last : (k : Known) (fs : List Formal) (gs : List rules.Formal) (ys : List Argument) (y : Argument) (number next : ℕ) (old new es : List Entry) → number ≡ length ys → next ≡ number + 1 →
    ShowsFormals k fs gs → ((ms : List Node) → AllShow (ShowsArgument k) ys ms → old ≡ rule.arguments_entries gs 1 ms) →
    ((f : Option rules.Formal) (n : Node) → ShowsFormal k (slice_get fs number) f → ShowsNode k y.at n.at → es ≡ rule.argument_entries f n) →
    new ≡ old ++ at_kid next es → (ms : List Node) (m : Node) → AllShow (ShowsArgument k) ys ms → ShowsArgument k y m → new ≡ rule.arguments_entries gs 1 (ms ++ m ∷ [])
arguments-last k fs gs ys y number next old new es counted one_more formals before one grown ms m shown here =
    let l = same-length (ShowsArgument k) ys ms shown in
    let e : next ≡ number_at 1 ms = omega (arith, number_at-length 1 ms) in
    let i : number ≡ length ms = counted ∙ l in
    let f = subst (λ x. ShowsFormal k (slice_get fs x) (formal_at gs ms)) (sym i) (shows-formal k fs gs ms formals) in
    grown ∙ ap (λ x. x ++ at_kid next es) (before ms shown) ∙ ap (λ x. rule.arguments_entries gs 1 ms ++ at_kid x es) e
    ∙ ap (λ x. rule.arguments_entries gs 1 ms ++ at_kid (number_at 1 ms) x) (one (formal_at gs ms) m f here.at) ∙ sym (arguments_entries-more gs 1 ms m)

pub arguments-more : (k : Known) (fs : List Formal) (gs : List rules.Formal) (ys : List Argument) (y : Argument) (number next : ℕ) (old new es : List Entry) → number ≡ length ys → next ≡ number + 1 →
    ShowsFormals k fs gs → ((ms : List Node) → AllShow (ShowsArgument k) ys ms → old ≡ rule.arguments_entries gs 1 ms) →
    ((f : Option rules.Formal) (n : Node) → ShowsFormal k (slice_get fs number) f → ShowsNode k y.at n.at → es ≡ rule.argument_entries f n) →
    new ≡ old ++ at_kid next es → (ns : List Node) → AllShow (ShowsArgument k) (ys ++ y ∷ []) ns → new ≡ rule.arguments_entries gs 1 ns
arguments-more k fs gs ys y number next old new es counted one_more formals before one grown ns shown =
    let l = last-shown (ShowsArgument k) ys y ns shown in
    arguments-last k fs gs ys y number next old new es counted one_more formals before one grown l.front l.last l.before l.here ∙ ap (λ x. rule.arguments_entries gs 1 x) (sym l.is)

pub each_kid-next : (k : Known) (entries : Node → List Entry) (first : ℕ) (ys : List Argument) (y : Argument) (number : ℕ) (old new es : List Entry) → number ≡ first + length ys →
    ((ms : List Node) → AllShow (ShowsArgument k) ys ms → old ≡ each_kid entries first ms) →
    ((n : Node) → ShowsArgument k y n → es ≡ entries n) →
    new ≡ old ++ at_kid number es → (ns : List Node) → AllShow (ShowsArgument k) (ys ++ y ∷ []) ns → new ≡ each_kid entries first ns
each_kid-next k entries first ys y number old new es counted before one grown ns shown =
    let l = last-shown (ShowsArgument k) ys y ns shown in
    let h = same-length (ShowsArgument k) ys l.front l.before in
    let e : number ≡ number_at first l.front = omega (arith, number_at-length first l.front) in
    grown ∙ ap (λ x. x ++ at_kid number es) (before l.front l.before) ∙ ap (λ x. each_kid entries first l.front ++ at_kid x es) e
    ∙ ap (λ x. each_kid entries first l.front ++ at_kid (number_at first l.front) x) (one l.last l.here) ∙ sym (each_kid-more entries first l.front l.last) ∙ ap (λ x. each_kid entries first x) (sym l.is)
