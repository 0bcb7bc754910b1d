-- What stands at a place while nothing is written there.
use Rattle.std.proofs.Common.{◌≡◌, ℕ, ◌+◌, ◌*◌, ◌≤◌, Bool, true, false, not, List, [], ◌∷◌, Option, Some, None, length, map, sum_by, refl, ◌∙◌, arith}
use Rattle.std.proofs.lemmas.Bool.{and_from, eq-eqb}
use Rattle.std.proofs.lemmas.List.{length-map}
use Rattle.std.proofs.lemmas.List.Sums.{sum_by-cons}
use Rattle.pc_syntax.specs.declared.kind.Kind.{Kind}
use Rattle.pc_syntax.specs.declared.kind.Kind.TheVariants.{Ifelse, Hole}
use Rattle.pc_syntax.specs.declared.sort.Sort.{Sort}
use Rattle.pc_syntax.specs.declared.class.Class.{Class}
use Rattle.pc_syntax.specs.declared.class.Class.TheVariants as class
use Rattle.pc_syntax.specs.Plain.{forest_of, node}
use Rattle.pc_syntax.specs.Slots.{is_list, places_of}
use Rattle.pc_syntax.specs.Classes.{has}
use Rattle.pc_syntax.specs.WellFormed.{size_of, depth_of, opens, second_open, breaks_else_rule, size_limit-is, WellFormed, IsWellFormed, IsProper}
use Rattle.pc_syntax.specs.Parts.{largest, is_open}
use Rattle.pc_syntax.specs.PartsLaws.{kind-node, is_open-node, size_of-node, depth_of-node}
use Rattle.pc_syntax.specs.Fits.{word_fits, takes_count, takes_from, kinds_of, node_fits}
use Rattle.pc_syntax.specs.FitsLayoutLaws.{walk, walk-suc, takes_from-walk}
use Rattle.pc_syntax.specs.SoundLaws.{fits-sound}
use Rattle.pc_syntax.specs.Blanks.{blank_kind, first_hole, holes, blank, fresh}

-- it may stand there
pub has-blank : (c : Class) → has c (blank_kind c) ≡ true
has-blank class.Program = refl
has-blank class.Block = refl
has-blank class.Constdef = refl
has-blank class.Typedef = refl
has-blank class.Vardef = refl
has-blank class.Routine = refl
has-blank class.Parameter = refl
has-blank class.Denoter = refl
has-blank class.Structured = refl
has-blank class.Ordinal = refl
has-blank class.Field = refl
has-blank class.Constant = refl
has-blank class.Bare = refl
has-blank class.Statement = refl
has-blank class.Body = refl
has-blank class.Arm = refl
has-blank class.Argument = refl
has-blank class.Member = refl
has-blank class.Operand = refl
has-blank class.Expression = refl
has-blank class.Simple = refl
has-blank class.Term = refl
has-blank class.Factor = refl
has-blank class.Access = refl
has-blank class.Name = refl
has-blank class.Heads = refl
has-blank class.Args = refl
has-blank class.Params = refl
has-blank class.Names = refl
has-blank class.Labels = refl
has-blank class.Indexes = refl
has-blank class.Exprs = refl
has-blank class.Accesses = refl
has-blank class.Members = refl
has-blank class.Consts = refl
has-blank class.Types = refl
has-blank class.Vars = refl
has-blank class.Routines = refl
has-blank class.Fields = refl
has-blank class.Stmts = refl
has-blank class.Arms = refl

-- it is well formed
pub sound-blank : (c : Class) → IsWellFormed (blank c)
unfolding node
sound-blank class.Program = (refl, refl, refl, tt, tt)
sound-blank class.Block = (refl, refl, refl, tt, tt)
sound-blank class.Constdef = (refl, refl, refl, tt, tt)
sound-blank class.Typedef = (refl, refl, refl, tt, tt)
sound-blank class.Vardef = (refl, refl, refl, tt, tt)
sound-blank class.Routine = (refl, refl, refl, tt, tt)
sound-blank class.Parameter = (refl, refl, refl, tt, tt)
sound-blank class.Denoter = (refl, refl, refl, tt, tt)
sound-blank class.Structured = (refl, refl, refl, tt, tt)
sound-blank class.Ordinal = (refl, refl, refl, tt, tt)
sound-blank class.Field = (refl, refl, refl, tt, tt)
sound-blank class.Constant = (refl, refl, refl, tt, tt)
sound-blank class.Bare = (refl, refl, refl, tt, tt)
sound-blank class.Statement = (refl, refl, refl, tt, tt)
sound-blank class.Body = (refl, refl, refl, tt, tt)
sound-blank class.Arm = (refl, refl, refl, tt, tt)
sound-blank class.Argument = (refl, refl, refl, tt, tt)
sound-blank class.Member = (refl, refl, refl, tt, tt)
sound-blank class.Operand = (refl, refl, refl, tt, tt)
sound-blank class.Expression = (refl, refl, refl, tt, tt)
sound-blank class.Simple = (refl, refl, refl, tt, tt)
sound-blank class.Term = (refl, refl, refl, tt, tt)
sound-blank class.Factor = (refl, refl, refl, tt, tt)
sound-blank class.Access = (refl, refl, refl, tt, tt)
sound-blank class.Name = (refl, refl, refl, tt, tt)
sound-blank class.Heads = (refl, refl, refl, tt, tt)
sound-blank class.Args = (refl, refl, refl, tt, tt)
sound-blank class.Params = (refl, refl, refl, tt, tt)
sound-blank class.Names = (refl, refl, refl, (refl, refl, refl, tt, tt), tt)
sound-blank class.Labels = (refl, refl, refl, (refl, refl, refl, tt, tt), tt)
sound-blank class.Indexes = (refl, refl, refl, (refl, refl, refl, tt, tt), tt)
sound-blank class.Exprs = (refl, refl, refl, (refl, refl, refl, tt, tt), tt)
sound-blank class.Accesses = (refl, refl, refl, (refl, refl, refl, tt, tt), tt)
sound-blank class.Members = (refl, refl, refl, tt, tt)
sound-blank class.Consts = (refl, refl, refl, tt, tt)
sound-blank class.Types = (refl, refl, refl, tt, tt)
sound-blank class.Vars = (refl, refl, refl, tt, tt)
sound-blank class.Routines = (refl, refl, refl, tt, tt)
sound-blank class.Fields = (refl, refl, refl, (refl, refl, refl, tt, tt), tt)
sound-blank class.Stmts = (refl, refl, refl, (refl, refl, refl, tt, tt), tt)
sound-blank class.Arms = (refl, refl, refl, (refl, refl, refl, tt, tt), tt)

-- it doesn't end open
opens-blank : (c : Class) (last : Bool) → opens (blank_kind c) last ≡ false
opens-blank class.Program last = refl
opens-blank class.Block last = refl
opens-blank class.Constdef last = refl
opens-blank class.Typedef last = refl
opens-blank class.Vardef last = refl
opens-blank class.Routine last = refl
opens-blank class.Parameter last = refl
opens-blank class.Denoter last = refl
opens-blank class.Structured last = refl
opens-blank class.Ordinal last = refl
opens-blank class.Field last = refl
opens-blank class.Constant last = refl
opens-blank class.Bare last = refl
opens-blank class.Statement last = refl
opens-blank class.Body last = refl
opens-blank class.Arm last = refl
opens-blank class.Argument last = refl
opens-blank class.Member last = refl
opens-blank class.Operand last = refl
opens-blank class.Expression last = refl
opens-blank class.Simple last = refl
opens-blank class.Term last = refl
opens-blank class.Factor last = refl
opens-blank class.Access last = refl
opens-blank class.Name last = refl
opens-blank class.Heads last = refl
opens-blank class.Args last = refl
opens-blank class.Params last = refl
opens-blank class.Names last = refl
opens-blank class.Labels last = refl
opens-blank class.Indexes last = refl
opens-blank class.Exprs last = refl
opens-blank class.Accesses last = refl
opens-blank class.Members last = refl
opens-blank class.Consts last = refl
opens-blank class.Types last = refl
opens-blank class.Vars last = refl
opens-blank class.Routines last = refl
opens-blank class.Fields last = refl
opens-blank class.Stmts last = refl
opens-blank class.Arms last = refl

pub closed-blank : (c : Class) → is_open (blank c) ≡ false
closed-blank c = is_open-node (blank_kind c) [] [] (holes (first_hole (blank_kind c))) ∙ opens-blank c _

-- it is small: a hole more where the list may not be empty
size_of-holes : (o : Option Sort) (n : ℕ) → ((s : Sort) → o ≡ Some s → 1 ≤ n) → sum_by size_of (holes o) ≤ n
size_of-holes None n h = omega arith
size_of-holes (Some s) n h = omega (arith, h s refl, size_of-node (Hole s) [] [] [], sum_by-cons size_of (node (Hole s) [] [] []) [])

depth_of-holes : (o : Option Sort) (n : ℕ) → ((s : Sort) → o ≡ Some s → 1 ≤ n) → largest (map depth_of (holes o)) ≤ n
depth_of-holes None n h = omega arith
depth_of-holes (Some s) n h = omega (arith, h s refl, depth_of-node (Hole s) [] [] [])

module _ (c : Class) (n : ℕ) (h : (s : Sort) → first_hole (blank_kind c) ≡ Some s → 1 ≤ n) where
  pub size_of-blank : size_of (blank c) ≤ 1 + n
  size_of-blank = omega (arith, size_of-holes (first_hole (blank_kind c)) n h, size_of-node (blank_kind c) [] [] (holes (first_hole (blank_kind c))))

  pub depth_of-blank : depth_of (blank c) ≤ 1 + n
  depth_of-blank = omega (arith, depth_of-holes (first_hole (blank_kind c)) n h, depth_of-node (blank_kind c) [] [] (holes (first_hole (blank_kind c))))

pub proper-blank : (c : Class) → IsProper (blank c)
proper-blank c = record {
  sound = sound-blank c;
  shallow = omega (arith, depth_of-blank c 1 (λ s e. omega arith));
  small = omega (arith, size_of-blank c 1 (λ s e. omega arith), size_limit-is);
}

-- a node at whose places nothing is written yet
kinds_of-blanks : (cs : List Class) → kinds_of (map blank cs) ≡ map blank_kind cs
kinds_of-blanks [] = refl
kinds_of-blanks (c ∷ cs) = rw (kind-node, kinds_of-blanks cs) refl

walk-blanks : (cs : List Class) → walk cs 0 (map blank_kind cs) ≡ true
walk-blanks [] = refl
walk-blanks (c ∷ cs) = rw (has-blank c, walk-suc c cs 0 (map blank_kind cs)) (walk-blanks cs)

sound-blanks : (cs : List Class) → WellFormed (forest_of (map blank cs))
sound-blanks [] = tt
sound-blanks (c ∷ cs) = let s = sound-blank c in (s.0, s.1, s.2, s.3, sound-blanks cs)

second_open-blanks : (cs : List Class) → second_open (forest_of (map blank cs)) ≡ false
second_open-blanks [] = refl
second_open-blanks (c ∷ []) = refl
second_open-blanks (c ∷ d ∷ cs) = closed-blank d

breaks_else_rule-blanks : (k : Kind) (cs : List Class) → breaks_else_rule k (forest_of (map blank cs)) ≡ false
breaks_else_rule-blanks Ifelse cs = second_open-blanks cs
breaks_else_rule-blanks _ cs = refl

size_of-blanks : (cs : List Class) → sum_by size_of (map blank cs) ≤ 2 * length cs
size_of-blanks [] = omega arith
size_of-blanks (c ∷ cs) = omega (arith, size_of-blank c 1 (λ s e. omega arith), size_of-blanks cs, sum_by-cons size_of (blank c) (map blank cs))

depth_of-blanks : (cs : List Class) → largest (map depth_of (map blank cs)) ≤ 2
depth_of-blanks [] = omega arith
depth_of-blanks (c ∷ cs) = omega (arith, depth_of-blank c 1 (λ s e. omega arith), depth_of-blanks cs)

pub proper-fresh : (k : Kind) (w : List ℕ) → is_list k ≡ false → word_fits k w ≡ true → length (places_of k) ≤ 5 → IsProper (fresh k w)
unfolding node_fits
proper-fresh k w single word few =
    let cs = places_of k in
    let ks = map blank cs in
    let count : takes_count k (length ks) ≡ true = rw (length-map, single) (eq-eqb _ _ refl) in
    let places : takes_from k 0 (kinds_of ks) ≡ true = takes_from-walk k single 0 (kinds_of ks) ∙ rw (kinds_of-blanks cs) (walk-blanks cs) in
    let apart : not (breaks_else_rule k (forest_of ks)) ≡ true = rw (breaks_else_rule-blanks k cs) refl in
    record {
      sound = fits-sound k w [] ks (and_from _ _ word (and_from _ _ count (and_from _ _ places (and_from _ _ refl apart)))) (sound-blanks cs);
      shallow = omega (arith, depth_of-node k w [] ks, depth_of-blanks cs);
      small = omega (arith, size_of-node k w [] ks, size_of-blanks cs, size_limit-is);
    }
