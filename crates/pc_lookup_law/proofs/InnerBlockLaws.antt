-- The block of a routine in a block that is a routine's is that routine's.
use Rattle.std.proofs.Common.{Bool, List, None, Option, Some, [], ap, append_assoc, arith, eq-eqb, false, if◌then◌else◌, is_some, length, ne_eqb, not, option_map, refl, subst, suc, sym, take, true, ℕ, ◌&&◌, ◌++◌, ◌+◌, ◌<◌, ◌==◌, ◌∙◌, ◌∷◌, ◌≡◌, ◌≤◌, ◌-◌}
use Rattle.std.specs.Option.{option_and_then, option_map_or, option_or}
use Rattle.std.specs.Prelude.{slice_get}
use Rattle.pc_lookup_law.specs.ClassAt.{HasClass, class_inside}
use Rattle.pc_lookup_law.proofs.BelongsLaws.{Belongs}
use Rattle.pc_lookup_law.proofs.BlockKidsLaws.{BlockRooted, block-rooted, kids-blockly}
use Rattle.pc_lookup_law.proofs.ClassAtLaws.{Rooted, rooted-kids}
use Rattle.pc_lookup_law.proofs.CountingLaws.{counted, counted-least, counted-parameters, counting-behind, parameters-before}
use Rattle.pc_lookup_law.proofs.GoingLaws.{Going, behind-here, next_of}
use Rattle.pc_lookup_law.proofs.HeadingKidsLaws.{heading-fits}
use Rattle.pc_lookup_law.proofs.KidsLaws.{Headed, headed, headed-count, headed-ends, headed-first}
use Rattle.pc_lookup_law.proofs.ParameterLaws.{Parameters, block_number, own-heading}
use Rattle.pc_rule_laws.specs.Agreement.{Agrees, seen_among, seen_or}
use Rattle.pc_rule_laws.specs.Forwards.{any-backwards}
use Rattle.pc_rule_laws.specs.Levels.{meant-enters}
use Rattle.pc_rule_laws.specs.Quiet.{asked}
use Rattle.pc_rule_laws.specs.RoutineLaw.{behind_routine}
use Rattle.pc_rule_laws.specs.Standing.{AllAre}
use Rattle.pc_rules.specs.Declarations.{head_or, heading_here, is_later_declaration}
use Rattle.pc_rules.specs.Meanings.{Class, Local, Meaning, find}
use Rattle.pc_rules.specs.OwnBlock.{own}
use Rattle.pc_rules.specs.RoutineList.{Forwarded, forwarded_for, routine_of}
use Rattle.pc_rules.specs.Routines.{Routine, bare, firsts, heading_marks, params_in, parameters_of}
use Rattle.pc_scope.specs.Around.{Block, block_of, declared_in, first_declared, inner_block}
use Rattle.pc_scope.specs.Blocks.{block_kids, kid_count, routines_among, tree_at}
use Rattle.pc_scope.specs.Declarations.{Declared, Meant}
use Rattle.pc_scope.specs.Headings.{Heading, any_pairs, heading_of, headings_in, is_routine_kind}
use Rattle.pc_scope.specs.Lookup.{Declaration, declaration_in, declared_here, lookup, seen_from}
use Rattle.pc_scope.specs.Waiting.{counting, waiting_for}
use Rattle.pc_syntax.specs.Plain.{Cons, Forest, Plain, trees_of}
use Rattle.pc_syntax.specs.WellFormed.{WellFormed}
use Rattle.pc_syntax.specs.Words.{lowered}
use Rattle.pc_syntax.specs.declared.kind.Kind.{Kind}

-- ---- in the heading of a routine the look-up by places ends in the block around

here-among : (q n : List ℕ) (b : Block) (outer : Meant) → seen_or q (declared_here n b) outer ≡ seen_among q (declared_in b) n outer
here-among q n b outer = by (first_declared n (declared_in b)) where
  by : (o : Option Declared) → seen_or q (option_map (λ d. record { declared = d; owner = b.owner.key }) o) outer ≡ option_map_or (λ d. seen_from q d) o outer
  by None = refl
  by (Some d) = refl

pub meant-misses : (n q : List ℕ) (b : Block) (i : ℕ) (c : Block) (m : ℕ) (way : List ℕ) (outer : Meant) → inner_block b i ≡ Some c → (c.number == m) ≡ false →
    seen_or q (declaration_in n b (4 ∷ i ∷ m ∷ way)) outer ≡ seen_among q (declared_in b) n outer
unfolding declaration_in
meant-misses n q b i c m way outer e apart =
    ap (λ (x : Option Block). seen_or q (further x) outer) e ∙ ap (λ (t : Bool). seen_or q (taken t) outer) apart ∙ here-among q n b outer where
      further : Option Block → Option Declaration
      further x = elim (option_and_then (λ (d : Block). if 4 == 4 && d.number == m then Some d else None) x) as (λ x. Option Declaration) [
        | None ↦ declared_here n b
        | Some d ↦ option_or (declaration_in n d way) (declared_here n b)
      ]

      taken : Bool → Option Declaration
      taken t = elim (if t then Some c else None) as (λ (x : Option Block). Option Declaration) [
        | None ↦ declared_here n b
        | Some d ↦ option_or (declaration_in n d way) (declared_here n b)
      ]

-- ---- one routine of a list

-- What the routines of a block have from it: around each, both look-ups agree, where `start` is where the list begins.
pub record ListOf (t : Plain) (r : Routine) (b : Block) (start : Local) : Type 0 where
  pub belongs : Belongs t r b
  pub around : (x : ℕ) (xs : List ℕ) (i m : ℕ) (way : List ℕ) (after : Local) → behind_routine (bare r.means) start 1 (own (routines_among b.kids)) i ≡ Some after → 1 < m →
      Agrees (HasClass t) (find (bare r.means) after (x ∷ xs))
      (seen_among (b.place ++ 4 ∷ i ∷ m ∷ way) (declared_in b) (x ∷ xs) (belongs.outer (x ∷ xs) (b.place ++ 4 ∷ i ∷ m ∷ way)))

no-longer : (n : ℕ) → n + 0 ≡ n
no-longer n = omega arith

last-kid : (n : ℕ) → suc n ≡ 1 + n
last-kid n = omega arith

other : (n m : ℕ) → (m == n) ≡ false → (n == m) ≡ false
other n m e = ne_eqb n m (λ f. cc (sym e ∙ eq-eqb m n (sym f)))

module _ (t : Plain) (r : Routine) (b : Block) (start : Local) (c : Option Class) (l : Local) (fs : List Forwarded) (gs : List Heading) (key : Option (List (List ℕ)))
    (k : Kind) (w : List ℕ) (ns : List (List ℕ)) (ks ts : Forest) (list : ListOf t r b start) (is : is_routine_kind k ≡ true) (sound : WellFormed (Cons k w ns ks ts))
    (going : Going t (bare r.means) (b.place ++ 4 ∷ []) (routines_among b.kids) c start l fs gs (Cons k w ns ks ts)) where
  abbrev p : List ℕ
  p = b.place ++ 4 ∷ []

  abbrev rs : Forest
  rs = routines_among b.kids

  abbrev i : ℕ
  i = suc (length gs)

  abbrev h : Heading
  h = heading_of k ks

  abbrev x : Plain
  x = record { kind = k; word = w; notes = ns; kids = ks }

  abbrev pub this_routine : Routine
  this_routine = routine_of (find (bare r.means) (next_of (bare r.means) l k w ns ks)) l fs (p ++ l.kid ∷ []) key k ks

  abbrev pub this_block : Block
  this_block = block_of b i x (counting rs i h)

  here : heading_here l ≡ h
  here = ap head_or going.ahead

  at : tree_at i rs ≡ Some x
  at = ap (slice_get (trees_of rs)) (sym (no-longer (length gs))) ∙ going.rest 0

  shape : Headed ks
  shape = headed k w ks is (asked k w ks sound.0)

  behind : behind_routine (bare r.means) start 1 (own rs) i ≡ Some (next_of (bare r.means) l k w ns ks)
  behind = going.behind i (omega arith) ∙ behind-here (bare r.means) l i k w ns ks ts

  inner : inner_block b i ≡ Some this_block
  inner =
      ap (option_and_then (λ (y : Plain). if is_routine_kind y.kind then Some (block_of b i y (counting rs i (heading_of y.kind y.kids))) else None)) at
      ∙ ap (λ t. if t then Some this_block else None) is

  rooted : Rooted t (p ++ i ∷ []) (class_inside c k) 1 ks
  rooted = rooted-kids t p c i k w ns ks ts going.root

  -- where the routine and its block stand
  to_kid : (m : ℕ) (way : List ℕ) → (p ++ l.kid ∷ []) ++ m ∷ way ≡ b.place ++ 4 ∷ i ∷ m ∷ way
  to_kid m way = append_assoc p (l.kid ∷ []) (m ∷ way) ∙ append_assoc b.place (4 ∷ []) (l.kid ∷ m ∷ way) ∙ ap (λ n. b.place ++ 4 ∷ n ∷ m ∷ way) going.kid

  from_kid : (m : ℕ) (way : List ℕ) → (p ++ i ∷ []) ++ m ∷ way ≡ b.place ++ 4 ∷ i ∷ m ∷ way
  from_kid m way = append_assoc p (i ∷ []) (m ∷ way) ∙ append_assoc b.place (4 ∷ []) (i ∷ m ∷ way)

  into : (way : List ℕ) → this_block.place ++ way ≡ b.place ++ 4 ∷ i ∷ kid_count ks ∷ way
  into way = append_assoc b.place (4 ∷ i ∷ kid_count ks ∷ []) way

  -- its parameters
  own_names : List (List ℕ × Meaning)
  own_names = firsts [] (params_in (heading_marks this_routine)).defines

  own_parameters : Parameters t p rs own_names i
  unfolding rooted shape at own_names
  own_parameters = own-heading t p rs this_routine i k w ns ks (class_inside c k) at refl sound.3 rooted shape

  later : is_later_declaration l ≡ (not h.is_forward && is_some (forwarded_for h fs))
  later = (λ j. not (here j).is_forward && any_pairs (here j) (going.waiting j)) ∙ ap (λ z. not h.is_forward && z) (any-backwards h fs)

  named : (if not h.is_forward && is_some (forwarded_for h fs) then option_map_or (λ (f : Forwarded). f.parameters) (forwarded_for h fs) [] else own_names) ≡ parameters_of this_routine
  unfolding own_names
  named = λ j. if sym later j then option_map_or (λ (f : Forwarded). f.parameters) (forwarded_for (sym here j) fs) [] else own_names

  number : counting rs i h ≡ counted h.is_forward i (waiting_for h 1 None gs)
  number = counting-behind rs gs (h ∷ headings_in ts) h going.split

  pub these_parameters : Parameters t p rs (parameters_of this_routine) (counting rs i h)
  these_parameters =
      subst (Parameters t p rs (parameters_of this_routine)) (sym number)
      (subst (λ ds. Parameters t p rs ds (counted h.is_forward i (waiting_for h 1 None gs))) named
      (counted-parameters (Parameters t p rs) h.is_forward (forwarded_for h fs) (waiting_for h 1 None gs) own_names i own_parameters (going.given h)))

  least : counting rs i h ≤ i
  least = subst (λ n. n ≤ i) (sym number) (counted-least h h.is_forward gs)

  -- a forward routine gives its own to its later declaration
  pub forward_parameters : h.is_forward ≡ true → Parameters t p rs (parameters_of this_routine) i
  forward_parameters e = subst (Parameters t p rs (parameters_of this_routine)) (ap (λ b. if b then i else option_map_or (λ (c : ℕ). c) (waiting_for h 1 None (take (i - 1) (headings_in rs))) i) e) these_parameters

  block_at : block_number i rs ≡ kid_count ks
  block_at = ap (λ (o : Option Plain). option_map_or (λ (y : Plain). kid_count y.kids) o 0) at

  pub inner-belongs : Belongs t this_routine this_block
  unfolding own_names
  inner-belongs =
      let o : List ℕ → List ℕ → Meant = λ n q. seen_among q (declared_in b) n (list.belongs.outer n q) in
      let root : BlockRooted t ((p ++ i ∷ []) ++ kid_count ks ∷ []) (block_kids ks) = block-rooted t (p ++ i ∷ []) (class_inside c k) 1 (kid_count ks) ks (headed-ends ks shape) (last-kid (kid_count ks)) rooted in
      record {
        block = refl;
        place = sym (to_kid (kid_count ks) []);
        number = refl;
        late = headed-count ks shape;
        heading = heading-fits ks sound.3 (headed-first ks shape) (headed-ends ks shape);
        kids = kids-blockly ks sound.3;
        given = root.class;
        root = subst (λ z. Rooted t z root.class 1 (block_kids ks)) (from_kid (kid_count ks) []) root.root;
        placed = these_parameters.placed;
        matches = these_parameters.matches;
        places = these_parameters.places;
        before = λ way.
            subst (λ z. AllAre true z these_parameters.placed) (append_assoc b.place (4 ∷ []) (i ∷ kid_count ks ∷ way) ∙ sym (into way))
            (subst (λ n. AllAre true (p ++ i ∷ n ∷ way) these_parameters.placed) block_at
            (parameters-before t p rs (parameters_of this_routine) (counting rs i h) i way these_parameters least));
        classed = these_parameters.classed;
        outer = o;
        around = λ y ys m way less.
            subst (λ z. Agrees (HasClass t) (this_routine.means (y ∷ ys)) (o (y ∷ ys) z)) (sym (to_kid m way))
            (list.around y ys i m way (next_of (bare r.means) l k w ns ks) behind less);
        inside = λ name way.
            subst (λ z. lookup t name z ≡ seen_or z (declaration_in (lowered name) this_block way) (o (lowered name) z)) (sym (into way))
            (list.belongs.inside name (4 ∷ i ∷ kid_count ks ∷ way)
            ∙ meant-enters (lowered name) (b.place ++ 4 ∷ i ∷ kid_count ks ∷ way) b i this_block way (list.belongs.outer (lowered name) (b.place ++ 4 ∷ i ∷ kid_count ks ∷ way)) inner);
        beside = λ name m way apart.
            subst (λ z. lookup t name z ≡ o (lowered name) z) (sym (to_kid m way))
            (list.belongs.inside name (4 ∷ i ∷ m ∷ way)
            ∙ meant-misses (lowered name) (b.place ++ 4 ∷ i ∷ m ∷ way) b i this_block m way (list.belongs.outer (lowered name) (b.place ++ 4 ∷ i ∷ m ∷ way)) inner (other (kid_count ks) m apart));
      }
