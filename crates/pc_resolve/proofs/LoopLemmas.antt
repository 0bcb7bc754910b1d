-- The loop over the list of the routines of a block, from tree to tree: lemmas.
use Rattle.std.proofs.Common.{◌≡◌, ◌<◌, ◌≤◌, ◌+◌, ◌-◌, ℕ, true, List, [], ◌∷◌, ◌++◌, Option, length, get_or, take, drop, sum_by, refl, ap, sym, ◌∙◌, subst, arith}
use Rattle.std.proofs.lemmas.Grind.{common_steps}
use Rattle.std.proofs.lemmas.List.Sums.{sum_by-cons}
use Rattle.std.proofs.lemmas.Option.{slice_get_within}
use Rattle.std.specs.Option.{ForSome}
use Rattle.pc_forms.specs.FormClasses.{Every, HasKids}
use Rattle.pc_forms.specs.Form.{form_of}
use Rattle.pc_forms.specs.FormKids.{kids_in}
use Rattle.pc_forms.specs.FormLaws.{kids_in-form_of, kind_in-form_of, classes-form_of, proper-kids_of}
use Rattle.pc_syntax.specs.Classes.{has, is_routine}
use Rattle.pc_syntax.specs.Plain.{Forest, Plain, forest_of, kids_of}
use Rattle.pc_syntax.specs.PartsLaws.{forest_of-kids_of, size_of-kids}
use Rattle.pc_syntax.specs.WellFormed.{IsProper, size_of}
use Rattle.pc_syntax.specs.declared.class.Class.TheVariants as class
use Rattle.pc_syntax.specs.declared.kind.Kind.{Kind}
use Rattle.pc_syntax.specs.declared.kind.Kind.TheVariants as kind
use Rattle.pc_scope.specs.Headings.{Heading, has_later, headings_in}
use Rattle.pc_types.specs.Rows.{IsInOrder}
use Rattle.pc_names.specs.TableLaws.{slice_get-number_of}
use Rattle.pc_names.specs.declared.id.NameId.{NameId}
use Rattle.pc_rules.specs.Attributes.{Entry, at_kid}
use Rattle.pc_rules.specs.Declarations.{head_or, rest_of}
use Rattle.pc_rules.specs.Meanings.{Local}
use Rattle.pc_rules.specs.RoutineList.{Forwarded, routines_of}
use Rattle.pc_rules.specs.Routines.{Routine}
use Rattle.pc_program_laws.specs.Inside.{InsideLaw}
use Rattle.pc_program_laws.specs.Routines.{RoutinesLaw}
use Rattle.pc_pointers.specs.Good.{Targets}
use Rattle.pc_block_laws.specs.BodyPlace.{BodyPlaceLaw}
use Rattle.pc_block_laws.specs.Touched.{TouchedLaw}
use Rattle.pc_growth.specs.GrowsLaws.{less-begins}
use Rattle.pc_places.specs.Places.{Keeps}
use Rattle.pc_routines.specs.Heads.{ShowsHead, ShowsHeadName, ShowsHeads}
use Rattle.pc_routines.specs.HeadsLaws.{ShowsHeads-grows, number-shown}
use Rattle.pc_routines.specs.Waits.{Waits}
use Rattle.pc_routines.specs.declared.forward.Forward.{Forward}
use Rattle.pc_routines.specs.declared.head.RoutineHead.{RoutineHead}
use Rattle.pc_routine_sites.specs.Visits.{Visits}
use Rattle.pc_routine_sites.specs.declared.site.RoutineSite.{RoutineSite}
use Rattle.pc_resolve.specs.Lists.{HeadHere, IsListOf, IsSite, IsSomeList, IsSomeTree, ResolvesList, ResolvesRoutine, StandsIn}
use Rattle.pc_resolve.specs.Walk.{SoFar}
use Rattle.pc_resolve.specs.Walking.{Walking}
use Rattle.pc_resolve.specs.declared.resolver.BlockEntries.{BlockEntries}
use Rattle.pc_resolve.specs.declared.resolver.Resolver.{Resolver}
use Rattle.pc_resolve.proofs.WalkLemmas.{walk-end, walk-start, walk-step}

-- ---- the list

routines-kind : (k : Kind) → has class.Routines k ≡ true → k ≡ kind.Routines
routines-kind kind.Routines e = refl
routines-kind k e = cc

-- each of its kids is a routine or a hole
listed-kids : (t : Plain) → IsProper t → has class.Routines t.kind ≡ true → Every (λ u. is_routine u.kind ≡ true) (kids_of t)
listed-kids t proper is =
    subst (λ (ks : List Plain). HasKids kind.Routines ks) (kids_in-form_of t proper)
    (subst (λ (j : Kind). HasKids j (kids_in (form_of t))) (kind_in-form_of t ∙ routines-kind t.kind is) (classes-form_of t proper))

-- and is smaller than it
smaller-of : (ts : List Plain) (n : ℕ) → sum_by size_of ts + 1 ≤ n → Every (λ u. size_of u + 1 ≤ n) ts
smaller-of [] n h = tt
smaller-of (t ∷ ts) n h = let all : sum_by size_of (t ∷ ts) ≡ size_of t + sum_by size_of ts = sum_by-cons size_of t ts in (omega (arith, h, all), smaller-of ts n (omega (arith, h, all)))

smaller-kids : (t : Plain) → Every (λ u. size_of u + 1 ≤ size_of t) (kids_of t)
smaller-kids t = let all : size_of t ≡ 1 + sum_by size_of (kids_of t) = size_of-kids t in smaller-of (kids_of t) (size_of t) (omega (arith, all))

-- the name of a heading has its number
pub head-there : (names : List (List ℕ)) (x : RoutineHead) (h : Heading) → ShowsHead names x h → ForSome x.name (λ i. i.0 < length names)
head-there names x h shows = λ i e.
    slice_get_within names i.0 h.name (slice_get-number_of names h.name i.0 (number-shown names i h.name (subst (λ (o : Option NameId). ShowsHeadName names o h.name) e shows.name)))

-- headings and trees end together
pub never-heads : (names : List (List ℕ)) (xs : List RoutineHead) (ts : List Plain) (X : Type 0) → length xs < 1 → 1 ≤ length ts → ShowsHeads names xs (headings_in (forest_of ts)) → X
never-heads names (x ∷ xs) ts X none some h = absurd (omega (arith, none))
never-heads names [] [] X none some h = absurd (omega (arith, some))
never-heads names [] (t ∷ ts) X none some h = absurd h

-- ---- a list that is not empty

tail-is : {A : Type 0} (y : A) (ys : List A) → take (length (y ∷ ys) - 1) (drop 1 (y ∷ ys)) ≡ ys
tail-is y ys = grind (arith, common_steps)

-- it is its first item and those behind
first-and-rest : {A : Type 0} (ys : List A) (d : A) → 1 ≤ length ys → ys ≡ get_or ys 0 d ∷ take (length ys - 1) (drop 1 ys)
first-and-rest [] d some = absurd (omega (arith, some))
first-and-rest (y ∷ ys) d some = λ i. y ∷ sym (tail-is y ys) i

none-there : {A : Type 0} (ys : List A) → length ys < 1 → ys ≡ []
none-there [] none = refl
none-there (y ∷ ys) none = absurd (omega (arith, none))

-- ---- before the first

pub walking-start : (block : ℕ) (site : RoutineSite) (number : ℕ) (list : Plain) (place : List ℕ) (rest : List Plain) (headings : List RoutineHead) (old s : Resolver) (w : List ((ℕ × ℕ) × Option Forward))
    (own_so inside_so : List Entry) → IsProper list → has class.Routines list.kind ≡ true → block < length old.tables.names.chains → IsInOrder old.tables.types → Keeps old.tables s.tables → s.domains ≡ old.domains →
    s.touched ≡ old.touched → s.kept ≡ old.kept → place ≡ site.place ++ number ∷ 4 ∷ [] → rest ≡ kids_of list → ShowsHeads s.tables.names.texts headings (headings_in list.kids) → Waits s.tables w [] [] → own_so ≡ [] → inside_so ≡ [] →
    Walking block site number list place rest headings 0 old w s own_so inside_so
walking-start block site number list place rest headings old s w own_so inside_so proper is there order keeps domains touched kept place_is rest_is heads waits own inside =
    let trees : list.kids ≡ forest_of rest = sym (ap forest_of rest_is ∙ forest_of-kids_of list) in
    record {
      there = less-begins old.tables.names.chains s.tables.names.chains block keeps.chains there;
      place_is = place_is;
      heads = subst (λ (f : Forest). ShowsHeads s.tables.names.texts headings (headings_in f)) trees heads;
      listed = subst (λ (ks : List Plain). Every (λ u. is_routine u.kind ≡ true) ks) (sym rest_is) (listed-kids list proper is);
      smaller = subst (λ (ks : List Plain). Every (λ u. size_of u + 1 ≤ size_of list) ks) (sym rest_is) (smaller-kids list);
      proper = subst (λ (ks : List Plain). Every IsProper ks) (sym rest_is) (proper-kids_of list proper);
      so_far = λ t targets r done beyond l h first none at stands.
          let begun = walk-start t targets r done beyond l place list.kids block site.owner.0 old s w order keeps domains touched kept h first none stands waits in
          subst (λ (p : Forest × List Entry × List Entry). SoFar t targets r done beyond l place list.kids p.0 block site.owner.0 0 old w s p.1 p.2) (λ i. (trees i, sym own i, sym inside i)) begun;
    }

-- ---- from tree to tree

-- the first tree that is left, with its heading, and those behind it; and the place of the list by another name
pub walking-split : (block : ℕ) (site : RoutineSite) (number : ℕ) (list : Plain) (place here : List ℕ) (rest : List Plain) (node : Plain) (headings : List RoutineHead) (d : RoutineHead) (count : ℕ) (old : Resolver)
    (w : List ((ℕ × ℕ) × Option Forward)) (mid : Resolver) (own_so inside_so : List Entry) → here ≡ place → 1 ≤ length rest → 1 ≤ length headings → node ≡ get_or rest 0 node →
    Walking block site number list place rest headings count old w mid own_so inside_so →
    Walking block site number list here (node ∷ take (length rest - 1) (drop 1 rest)) (get_or headings 0 d ∷ take (length headings - 1) (drop 1 headings)) count old w mid own_so inside_so
walking-split block site number list place here rest node headings d count old w mid own_so inside_so same some heads is h =
    let behind = take (length rest - 1) (drop 1 rest) in
    let trees : rest ≡ node ∷ behind = first-and-rest rest node some ∙ ap (λ (u : Plain). u ∷ behind) (sym is) in
    let names = first-and-rest headings d heads in
    subst (λ (p : List ℕ × List Plain × List RoutineHead). Walking block site number list p.0 p.1 p.2 count old w mid own_so inside_so) (λ i. (sym same i, trees i, names i)) h

-- the place of the list by its first name
pub walking-at : (block : ℕ) (site : RoutineSite) (number : ℕ) (list : Plain) (place here : List ℕ) (rest : List Plain) (headings : List RoutineHead) (count : ℕ) (old : Resolver) (w : List ((ℕ × ℕ) × Option Forward)) (new : Resolver)
    (own_so inside_so : List Entry) → here ≡ place → Walking block site number list here rest headings count old w new own_so inside_so → Walking block site number list place rest headings count old w new own_so inside_so
walking-at block site number list place here rest headings count old w new own_so inside_so same h = subst (λ (p : List ℕ). Walking block site number list p rest headings count old w new own_so inside_so) same h

module _ (block : ℕ) (site : RoutineSite) (number : ℕ) (list : Plain) (place : List ℕ) (node : Plain) (behind : List Plain) (x : RoutineHead) (more : List RoutineHead) (count : ℕ) (old : Resolver)
    (w : List ((ℕ × ℕ) × Option Forward)) (mid : Resolver) (own_so inside_so : List Entry)
    (h : Walking block site number list place (node ∷ behind) (x ∷ more) count old w mid own_so inside_so) where
  -- the heading that stands here
  head-here : (t : Plain) (targets : Targets) (r : Routine) (done beyond : List Routine) (l : Local) (fs : List Forwarded) → IsListOf t targets r done beyond l fs place (forest_of (node ∷ behind)) → HeadHere mid.tables x l
  head-here t targets r done beyond l fs left = record {
    shows = subst (λ (hs : List Heading). ShowsHead mid.tables.names.texts x (head_or hs)) (sym left.ahead) h.heads.0;
    later = subst (λ (hs : List Heading). x.has_later ≡ has_later (head_or hs) (rest_of hs)) (sym left.ahead) h.heads.1;
  }

  -- where the list is in a program
  place-in : (r : Routine) → IsSite r site → r.place ++ number ∷ 4 ∷ [] ≡ place
  place-in r at = ap (λ (p : List ℕ). p ++ number ∷ 4 ∷ []) (sym at.place) ∙ sym h.place_is

  pub walked : (t : Plain) (targets : Targets) (r : Routine) (done beyond : List Routine) (l : Local) → IsListOf t targets r done beyond l [] (r.place ++ number ∷ 4 ∷ []) list.kids → l.kid ≡ 1 → l.waiting ≡ [] →
      IsSite r site → StandsIn (routines_of t) targets r done l block site.owner.0 old →
      SoFar t targets r done beyond l place list.kids (forest_of (node ∷ behind)) block site.owner.0 count old w mid own_so inside_so
  walked t targets r done beyond l left first none at stands =
      h.so_far t targets r done beyond l (subst (λ (p : List ℕ). IsListOf t targets r done beyond l [] p list.kids) (place-in r at) left) first none at stands

  -- what `routine` asks
  pub some-tree : (next : ℕ) → next ≡ count + 1 → IsSomeList block site number list.kids old → IsSomeTree block site place next x node w mid
  some-tree next next_is s =
      let so = walked s.0 s.1 s.2 s.3 s.4 s.5 s.6 s.7 s.8 s.9 s.10 in (
        s.0,
        s.1,
        s.2,
        s.3 ++ so.inside,
        s.4,
        so.place,
        so.forwarded,
        forest_of behind,
        so.left,
        s.9,
        next_is ∙ so.so_many,
        head-here s.0 s.1 s.2 (s.3 ++ so.inside) s.4 so.place so.forwarded so.left,
        so.stands,
      )

  module _ (next : ℕ) (next_is : next ≡ count + 1) (v : List ((ℕ × ℕ) × Option Forward)) (new : Resolver) (es : BlockEntries) (found : ResolvesRoutine block site place next x node mid w new v es) where
    went : IsSomeList block site number list.kids old → Visits block mid.tables new.tables
    went s =
        let k = some-tree next next_is s in (found k.0 k.1 k.2 k.3 k.4 k.5 k.6 k.7 k.8 k.9 k.10 k.11 k.12).2.visits

    pub walking-step : RoutinesLaw → BodyPlaceLaw → InsideLaw → TouchedLaw → IsSomeList block site number list.kids old → (own_then inside_then : List Entry) →
        own_then ≡ own_so ++ at_kid next es.own.items → inside_then ≡ inside_so ++ es.inside.items → Walking block site number list place behind more next old v new own_then inside_then
    walking-step law body inner touched some own_then inside_then own inside =
        let visits = went some in
        record {
          there = less-begins mid.tables.names.chains new.tables.names.chains block visits.chains h.there;
          place_is = h.place_is;
          heads = ShowsHeads-grows mid.tables.names.texts new.tables.names.texts more (headings_in (forest_of behind)) visits.grows.names h.heads.2;
          listed = h.listed.1;
          smaller = h.smaller.1;
          proper = h.proper.1;
          so_far = λ t targets r done beyond l left first none at stands.
              let so = h.so_far t targets r done beyond l left first none at stands in
              walk-step law body inner touched t targets r done beyond l place list.kids node (forest_of behind) block site.owner.0 count old w mid own_so inside_so next v new es own_then inside_then h.listed.0 h.proper.0 next_is so
              (found t targets r (done ++ so.inside) beyond so.place so.forwarded (forest_of behind) so.left at (next_is ∙ so.so_many)
              (head-here t targets r (done ++ so.inside) beyond so.place so.forwarded so.left) so.stands)
              own inside;
        }

-- ---- behind the last

pub walking-end : (block : ℕ) (site : RoutineSite) (number : ℕ) (list : Plain) (place : List ℕ) (rest : List Plain) (headings : List RoutineHead) (count : ℕ) (old : Resolver) (w : List ((ℕ × ℕ) × Option Forward))
    (new : Resolver) (es : BlockEntries) → length rest < 1 → Walking block site number list place rest headings count old w new es.own.items es.inside.items → ResolvesList block site number list old new es
walking-end block site number list place rest headings count old w new es empty h = λ t targets r done beyond l left first bare at stands.
    let none = none-there rest empty in
    let here : r.place ++ number ∷ 4 ∷ [] ≡ place = ap (λ (p : List ℕ). p ++ number ∷ 4 ∷ []) (sym at.place) ∙ sym h.place_is in
    let so = h.so_far t targets r done beyond l (subst (λ (p : List ℕ). IsListOf t targets r done beyond l [] p list.kids) here left) first bare at stands in
    walk-end t targets r done beyond l (r.place ++ number ∷ 4 ∷ []) list.kids block site.owner.0 count old w new es.own.items es.inside.items
    (subst (λ (p : List ℕ × Forest). SoFar t targets r done beyond l p.0 list.kids p.1 block site.owner.0 count old w new es.own.items es.inside.items) (λ i. (sym here i, forest_of (none i))) so)
