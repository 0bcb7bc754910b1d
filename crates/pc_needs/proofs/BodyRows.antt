-- Rows of nodes with a hole in the place of each statement part: headings, what is declared, and own blocks.
use Rattle.std.specs.Prelude.{ℕ, suc, ◌≡◌, Bool, true, false, not, ◌&&◌, ◌||◌, if◌then◌else◌, List, [], ◌∷◌, ◌++◌}
use Rattle.std.proofs.Common.{refl, ap, sym, subst, ◌∙◌, true≢false}
use Rattle.std.proofs.lemmas.Bool.{and_parts, not-true}
use Rattle.pc_syntax.specs.declared.kind.Kind.{Kind}
use Rattle.pc_syntax.specs.declared.kind.Kind.TheVariants as kind
use Rattle.pc_syntax.specs.declared.sort.Sort.TheVariants as sort
use Rattle.pc_syntax.specs.declared.class.Class.TheVariants as class
use Rattle.pc_syntax.specs.Classes.{has, is_body}
use Rattle.pc_syntax.specs.Layout.{layout}
use Rattle.pc_syntax.specs.Plain.{Forest, Nil, Cons, count, kinds}
use Rattle.pc_syntax.specs.WellFormed.{WellFormed, fits_some}
use Rattle.pc_scope.specs.Blocks.{block_kids, kid_count}
use Rattle.pc_scope.specs.Headings.{ends_forward, first_name, heading_of, headings_in, is_routine_kind, is_function_kind}
use Rattle.pc_rules.specs.OwnBlock.{without_kids, own, bare_heading, heading_part, declared_by, declared_in}
use Rattle.pc_rules.specs.Meanings.{Class}
use Rattle.pc_needs.specs.Answers.{has_block}
use Rattle.pc_needs.specs.Bodies.{holds_bodies, without_bodies}
use Rattle.pc_needs.specs.UsedNames.{is_nil}
use Rattle.pc_needs.proofs.BodyKinds.{either-way, Passes, all-inside, inside-declared, body-inside}
use Rattle.pc_needs.proofs.HeadingKinds.{is_the_block, is_of_heading, heading-row, is_front, consts-front, types-front, vars-front, is_element, list-row, routines-kind, routine-holds, routine-has-heading}
use Rattle.pc_needs.proofs.UniqueLemmas.{forward-heading}

-- ---- one node

-- a node that stays as it is
without-kept : (k : Kind) (w : List ℕ) (ns : List (List ℕ)) (ks ts : Forest) → is_body k ≡ false → holds_bodies k ≡ false →
    without_bodies (Cons k w ns ks ts) ≡ Cons k w ns ks (without_bodies ts)
unfolding without_bodies
without-kept k w ns ks ts b h = rw (b, h) refl

-- a node with statement parts below it
pub without-holds : (k : Kind) (w : List ℕ) (ns : List (List ℕ)) (ks ts : Forest) → is_body k ≡ false → holds_bodies k ≡ true →
    without_bodies (Cons k w ns ks ts) ≡ Cons k w ns (without_bodies ks) (without_bodies ts)
unfolding without_bodies
without-holds k w ns ks ts b h = rw (b, h) refl

-- a statement part
pub without-body : (k : Kind) (w : List ℕ) (ns : List (List ℕ)) (ks ts : Forest) → is_body k ≡ true →
    without_bodies (Cons k w ns ks ts) ≡ Cons (kind.Hole sort.Statement) [] [] Nil (without_bodies ts)
unfolding without_bodies
without-body k w ns ks ts b = rw b refl

pub without-front : (k : Kind) (w : List ℕ) (ns : List (List ℕ)) (ks ts : Forest) → is_front k ≡ true → without_bodies (Cons k w ns ks ts) ≡ Cons k w ns ks (without_bodies ts)
without-front k w ns ks ts f =
    let a = and_parts (not (is_body k)) _ f in
    let b = and_parts (not (holds_bodies k)) _ a.1 in
    without-kept k w ns ks ts (not-true (is_body k) a.0) (not-true (holds_bodies k) b.0)

pub without-routine : (k : Kind) (w : List ℕ) (ns : List (List ℕ)) (ks ts : Forest) → is_routine_kind k ≡ true →
    without_bodies (Cons k w ns ks ts) ≡ Cons k w ns (without_bodies ks) (without_bodies ts)
without-routine k w ns ks ts r =
    let a = and_parts (not (is_body k)) (holds_bodies k) (either-way (not (is_body k) && holds_bodies k) (is_routine_kind k) (routine-holds k) r) in
    without-holds k w ns ks ts (not-true (is_body k) a.0) a.1

either-or : (x y : Bool) → (x || y) ≡ true → x ≡ false → y ≡ true
either-or true y h e = absurd (true≢false e)
either-or false y h e = h

pub without-heading : (k : Kind) (w : List ℕ) (ns : List (List ℕ)) (ks ts : Forest) → is_of_heading k ≡ true → is_the_block k ≡ false →
    without_bodies (Cons k w ns ks ts) ≡ Cons k w ns ks (without_bodies ts)
without-heading k w ns ks ts h n =
    let a = and_parts (not (is_body k)) (is_the_block k || not (holds_bodies k)) h in
    without-kept k w ns ks ts (not-true (is_body k) a.0) (not-true (holds_bodies k) (either-or (is_the_block k) (not (holds_bodies k)) a.1 n))

pub the-block : (k : Kind) → is_the_block k ≡ true → k ≡ kind.Block
the-block kind.Block e = refl
the-block _ e = absurd (true≢false (sym e))

-- ---- a routine's kids

heading-next : (k : Kind) (w : List ℕ) (ns : List (List ℕ)) (ks ts : Forest) → is_the_block k ≡ false → heading_part (Cons k w ns ks ts) ≡ Cons k w ns ks (heading_part ts)
heading-next kind.Block w ns ks ts e = absurd (true≢false e)
heading-next _ w ns ks ts e = refl

-- behind another kid
pub block-next : (k : Kind) (w : List ℕ) (ns : List (List ℕ)) (ks ts : Forest) → is_the_block k ≡ false → block_kids (Cons k w ns ks ts) ≡ block_kids ts
block-next kind.Block w ns ks ts e = absurd (true≢false e)
block-next _ w ns ks ts e = refl

-- by what a node is
pub by-block : (P : Kind → Type 0) (k : Kind) → P kind.Block → (is_the_block k ≡ false → P k) → P k
by-block P k here other = which (is_the_block k) refl where
  which : (b : Bool) → is_the_block k ≡ b → P k
  which true e = subst P (sym (the-block k e)) here
  which false e = other e

pub heading-without : (f : Forest) → Passes is_of_heading f → heading_part (without_bodies f) ≡ heading_part f
unfolding without_bodies
heading-without Nil p = refl
heading-without (Cons k w ns ks ts) p =
    let rest = heading-without ts p.1 in
    by-block (λ j. is_of_heading j ≡ true → heading_part (without_bodies (Cons j w ns ks ts)) ≡ heading_part (Cons j w ns ks ts)) k
    (λ h. ap (Cons kind.Block w ns Nil) rest)
    (λ e h. ap heading_part (without-heading k w ns ks ts h e) ∙ heading-next k w ns ks (without_bodies ts) e ∙ ap (Cons k w ns ks) rest ∙ sym (heading-next k w ns ks ts e)) p.0

pub block-without : (f : Forest) → Passes is_of_heading f → block_kids (without_bodies f) ≡ without_bodies (block_kids f)
unfolding without_bodies
block-without Nil p = refl
block-without (Cons k w ns ks ts) p =
    let rest = block-without ts p.1 in
    by-block (λ j. is_of_heading j ≡ true → block_kids (without_bodies (Cons j w ns ks ts)) ≡ without_bodies (block_kids (Cons j w ns ks ts))) k
    (λ h. refl)
    (λ e h. ap block_kids (without-heading k w ns ks ts h e) ∙ block-next k w ns ks (without_bodies ts) e ∙ rest ∙ ap without_bodies (sym (block-next k w ns ks ts e))) p.0

-- what the heading alone decides
heading-count : (f : Forest) → kid_count (heading_part f) ≡ kid_count f
heading-count Nil = refl
heading-count (Cons kind.Block w ns ks ts) = ap suc (heading-count ts)
heading-count (Cons k w ns ks ts) = ap suc (heading-count ts)

heading-name : (f : Forest) → first_name (heading_part f) ≡ first_name f
heading-name Nil = refl
heading-name (Cons kind.Block w ns ks ts) = refl
heading-name (Cons k w ns ks ts) = refl

heading-bare : (f : Forest) → bare_heading (heading_part f) ≡ bare_heading f
heading-bare Nil = refl
heading-bare (Cons kind.Block w ns ks ts) = ap (Cons kind.Block w ns Nil) (heading-bare ts)
heading-bare (Cons kind.Params w ns ks ts) = ap (Cons kind.Params w ns (without_kids ks)) (heading-bare ts)
heading-bare (Cons k w ns ks ts) = ap (Cons k w ns ks) (heading-bare ts)

pub count-without : (f : Forest) → Passes is_of_heading f → kid_count (without_bodies f) ≡ kid_count f
count-without f p = sym (heading-count (without_bodies f)) ∙ ap kid_count (heading-without f p) ∙ heading-count f

pub bare-without : (f : Forest) → Passes is_of_heading f → bare_heading (without_bodies f) ≡ bare_heading f
bare-without f p = sym (heading-bare (without_bodies f)) ∙ ap bare_heading (heading-without f p) ∙ heading-bare f

name-without : (f : Forest) → Passes is_of_heading f → first_name (without_bodies f) ≡ first_name f
name-without f p = sym (heading-name (without_bodies f)) ∙ ap first_name (heading-without f p) ∙ heading-name f

forward-without : (f : Forest) → Passes is_of_heading f → ends_forward (without_bodies f) ≡ ends_forward f
forward-without f p = sym (forward-heading (without_bodies f)) ∙ ap ends_forward (heading-without f p) ∙ forward-heading f

-- ---- a list of routines

-- the kids of its routines
abbrev pub ListRow : Forest → Type 0
ListRow Nil = Unit {0}
ListRow (Cons k w ns ks ts) = (is_element k ≡ true) × (is_routine_kind k ≡ true → Passes is_of_heading ks) × ListRow ts

pub list-of : (f : Forest) → Passes is_element f → WellFormed f → ListRow f
list-of Nil p c = tt
list-of (Cons k w ns ks ts) p c = (p.0, (λ r. heading-row k w ks (routine-has-heading k r) c.0), list-of ts p.1 c.4)

-- an element is a routine, or stays as it is
pub by-element : (P : Type 0) (k : Kind) → is_element k ≡ true → (is_routine_kind k ≡ true → P) → (is_routine_kind k ≡ false → is_front k ≡ true → P) → P
by-element P k e routine other = which (is_routine_kind k) refl where
  which : (b : Bool) → is_routine_kind k ≡ b → P
  which true r = routine r
  which false r = other r (either-or (is_routine_kind k) (is_front k) e r)

-- a routine in an own block, and another node
pub own-routine : (k : Kind) (w : List ℕ) (ns : List (List ℕ)) (ks ts : Forest) → is_routine_kind k ≡ true → own (Cons k w ns ks ts) ≡ Cons k w ns (bare_heading ks) (own ts)
unfolding own
own-routine k w ns ks ts r = rw r refl

pub own-other : (k : Kind) (w : List ℕ) (ns : List (List ℕ)) (ks ts : Forest) → is_routine_kind k ≡ false → own (Cons k w ns ks ts) ≡ Cons k w ns (own ks) (own ts)
unfolding own
own-other k w ns ks ts r = rw r refl

pub own-list : (f : Forest) → ListRow f → own (without_bodies f) ≡ own f
unfolding without_bodies
own-list Nil p = refl
own-list (Cons k w ns ks ts) p =
    let rest = own-list ts p.2 in
    by-element (own (without_bodies (Cons k w ns ks ts)) ≡ own (Cons k w ns ks ts)) k p.0
    (λ r. ap own (without-routine k w ns ks ts r) ∙ own-routine k w ns (without_bodies ks) (without_bodies ts) r
    ∙ (λ i. Cons k w ns (bare-without ks (p.1 r) i) (rest i)) ∙ sym (own-routine k w ns ks ts r))
    (λ r f. ap own (without-front k w ns ks ts f) ∙ own-other k w ns ks (without_bodies ts) r ∙ ap (Cons k w ns (own ks)) rest ∙ sym (own-other k w ns ks ts r))

pub headings-without : (f : Forest) → ListRow f → headings_in (without_bodies f) ≡ headings_in f
unfolding without_bodies
headings-without Nil p = refl
headings-without (Cons k w ns ks ts) p =
    let rest = headings-without ts p.2 in
    by-element (headings_in (without_bodies (Cons k w ns ks ts)) ≡ headings_in (Cons k w ns ks ts)) k p.0
    (λ r. ap headings_in (without-routine k w ns ks ts r)
    ∙ (λ i. record { name = name-without ks (p.1 r) i; is_function = is_function_kind k; is_forward = is_routine_kind k && forward-without ks (p.1 r) i } ∷ rest i))
    (λ r f. ap headings_in (without-front k w ns ks ts f) ∙ ap (λ hs. heading_of k ks ∷ hs) rest)

-- ---- the kids of a block

-- the parts of a block: what stays, the routines, and the statement part
pub record BlockRow (f : Forest) : Type 0 where
  pub a : Kind
  pub v1 : List ℕ
  pub n1 : List (List ℕ)
  pub k1 : Forest
  pub b : Kind
  pub v2 : List ℕ
  pub n2 : List (List ℕ)
  pub k2 : Forest
  pub c : Kind
  pub v3 : List ℕ
  pub n3 : List (List ℕ)
  pub k3 : Forest
  pub v4 : List ℕ
  pub n4 : List (List ℕ)
  pub k4 : Forest
  pub j : Kind
  pub v5 : List ℕ
  pub n5 : List (List ℕ)
  pub k5 : Forest
  pub is : f ≡ Cons a v1 n1 k1 (Cons b v2 n2 k2 (Cons c v3 n3 k3 (Cons kind.Routines v4 n4 k4 (Cons j v5 n5 k5 Nil))))
  pub front_a : is_front a ≡ true
  pub front_b : is_front b ≡ true
  pub front_c : is_front c ≡ true
  pub list : Passes is_element k4
  pub list_well : WellFormed k4
  pub body : is_body j ≡ true
  pub body_well : WellFormed (Cons j v5 n5 k5 Nil)

pub block-row : (w : List ℕ) (f : Forest) → fits_some (layout kind.Block w (count f)) (kinds f) ≡ true → WellFormed f → BlockRow f
block-row (x ∷ w) f e wf = absurd (true≢false (sym e))
block-row [] Nil e wf = absurd (true≢false (sym e))
block-row [] (Cons a v1 n1 k1 Nil) e wf = absurd (true≢false (sym (and_parts (has class.Consts a) _ e).1))
block-row [] (Cons a v1 n1 k1 (Cons b v2 n2 k2 Nil)) e wf = absurd (true≢false (sym (and_parts (has class.Types b) _ (and_parts (has class.Consts a) _ e).1).1))
block-row [] (Cons a v1 n1 k1 (Cons b v2 n2 k2 (Cons c v3 n3 k3 Nil))) e wf =
    absurd (true≢false (sym (and_parts (has class.Vars c) _ (and_parts (has class.Types b) _ (and_parts (has class.Consts a) _ e).1).1).1))
block-row [] (Cons a v1 n1 k1 (Cons b v2 n2 k2 (Cons c v3 n3 k3 (Cons d v4 n4 k4 Nil)))) e wf =
    absurd (true≢false (sym (and_parts (has class.Routines d) _ (and_parts (has class.Vars c) _ (and_parts (has class.Types b) _ (and_parts (has class.Consts a) _ e).1).1).1).1))
block-row [] (Cons a v1 n1 k1 (Cons b v2 n2 k2 (Cons c v3 n3 k3 (Cons d v4 n4 k4 (Cons j v5 n5 k5 (Cons m v6 n6 k6 ts)))))) e wf =
    absurd (true≢false (sym (and_parts (has class.Body j) _ (and_parts (has class.Routines d) _ (and_parts (has class.Vars c) _ (and_parts (has class.Types b) _ (and_parts (has class.Consts a) _ e).1).1).1).1).1))
block-row [] (Cons a v1 n1 k1 (Cons b v2 n2 k2 (Cons c v3 n3 k3 (Cons d v4 n4 k4 (Cons j v5 n5 k5 Nil))))) e wf =
    let x = and_parts (has class.Consts a) _ e in
    let y = and_parts (has class.Types b) _ x.1 in
    let z = and_parts (has class.Vars c) _ y.1 in
    let u = and_parts (has class.Routines d) _ z.1 in
    let v = and_parts (has class.Body j) _ u.1 in
    let is_list = routines-kind d u.0 in
    record {
      a = a;
      v1 = v1;
      n1 = n1;
      k1 = k1;
      b = b;
      v2 = v2;
      n2 = n2;
      k2 = k2;
      c = c;
      v3 = v3;
      n3 = n3;
      k3 = k3;
      v4 = v4;
      n4 = n4;
      k4 = k4;
      j = j;
      v5 = v5;
      n5 = n5;
      k5 = k5;
      is = λ i. Cons a v1 n1 k1 (Cons b v2 n2 k2 (Cons c v3 n3 k3 (Cons (is_list i) v4 n4 k4 (Cons j v5 n5 k5 Nil))));
      front_a = either-way (is_front a) (has class.Consts a) (consts-front a) x.0;
      front_b = either-way (is_front b) (has class.Types b) (types-front b) y.0;
      front_c = either-way (is_front c) (has class.Vars c) (vars-front c) z.0;
      list = list-row v4 k4 (subst (λ (k : Kind). fits_some (layout k v4 (count k4)) (kinds k4) ≡ true) is_list wf.4.4.4.0);
      list_well = wf.4.4.4.3;
      body = v.0;
      body_well = wf.4.4.4.4;
    }

-- the names that an own block declares
declared-front : (k : Kind) (w : List ℕ) (ns : List (List ℕ)) (ks ts us : Forest) → declared_in (own ts) ≡ declared_in (own us) → declared_in (own (Cons k w ns ks ts)) ≡ declared_in (own (Cons k w ns ks us))
unfolding own
declared-front k w ns ks ts us e =
    let ms = if is_routine_kind k then bare_heading ks else own ks in
    ap (λ (r : List (List ℕ × Class)). declared_by k ms ++ (if is_routine_kind k then [] else declared_in ms) ++ r) e

declared-body : (k : Kind) (w : List ℕ) (ns : List (List ℕ)) (ks : Forest) → is_body k ≡ true → WellFormed (Cons k w ns ks Nil) →
    declared_in (own (without_bodies (Cons k w ns ks Nil))) ≡ declared_in (own (Cons k w ns ks Nil))
unfolding own without_bodies
declared-body k w ns ks b c =
    ap (λ f. declared_in (own f)) (without-body k w ns ks Nil b) ∙ sym (inside-declared (Cons k w ns ks Nil) (all-inside (Cons k w ns ks Nil) ((either-way _ (is_body k) (body-inside k) b), tt) c))

-- a list of routines in a block
declared-list : (w : List ℕ) (ns : List (List ℕ)) (ks ts us : Forest) → ListRow ks → declared_in (own ts) ≡ declared_in (own us) →
    declared_in (own (Cons kind.Routines w ns (without_bodies ks) ts)) ≡ declared_in (own (Cons kind.Routines w ns ks us))
unfolding own
declared-list w ns ks ts us r e = λ i. declared_in (own-list ks r i) ++ e i

pub declared-without : (f : Forest) → BlockRow f → declared_in (own (without_bodies f)) ≡ declared_in (own f)
unfolding without_bodies
declared-without f r =
    let five = Cons r.j r.v5 r.n5 r.k5 Nil in
    let four = Cons kind.Routines r.v4 r.n4 r.k4 five in
    let three = Cons r.c r.v3 r.n3 r.k3 four in
    let two = Cons r.b r.v2 r.n2 r.k2 three in
    let e5 : declared_in (own (without_bodies five)) ≡ declared_in (own five) = declared-body r.j r.v5 r.n5 r.k5 r.body r.body_well in
    let e4 : declared_in (own (without_bodies four)) ≡ declared_in (own four) = declared-list r.v4 r.n4 r.k4 (without_bodies five) five (list-of r.k4 r.list r.list_well) e5 in
    let e3 : declared_in (own (without_bodies three)) ≡ declared_in (own three) =
    ap (λ g. declared_in (own g)) (without-front r.c r.v3 r.n3 r.k3 four r.front_c) ∙ declared-front r.c r.v3 r.n3 r.k3 (without_bodies four) four e4 in
    let e2 : declared_in (own (without_bodies two)) ≡ declared_in (own two) =
    ap (λ g. declared_in (own g)) (without-front r.b r.v2 r.n2 r.k2 three r.front_b) ∙ declared-front r.b r.v2 r.n2 r.k2 (without_bodies three) three e3 in
    let e1 : declared_in (own (without_bodies (Cons r.a r.v1 r.n1 r.k1 two))) ≡ declared_in (own (Cons r.a r.v1 r.n1 r.k1 two)) =
    ap (λ g. declared_in (own g)) (without-front r.a r.v1 r.n1 r.k1 two r.front_a) ∙ declared-front r.a r.v1 r.n1 r.k1 (without_bodies two) two e2 in
    ap (λ g. declared_in (own (without_bodies g))) r.is ∙ e1 ∙ ap (λ g. declared_in (own g)) (sym r.is)

-- ---- what has no kids, and no block

nil-whole : (f : Forest) → is_nil (own (without_bodies f)) ≡ is_nil (own f)
unfolding own without_bodies
nil-whole Nil = refl
nil-whole (Cons k w ns ks ts) = which (is_body k) where
  which : (b : Bool) → is_nil (own (if b then Cons (kind.Hole sort.Statement) [] [] Nil (without_bodies ts) else Cons k w ns (if holds_bodies k then without_bodies ks else ks) (without_bodies ts))) ≡ false
  which true = refl
  which false = refl

pub nil-without : (f : Forest) → Passes is_of_heading f → is_nil (own (block_kids (without_bodies f))) ≡ is_nil (own (block_kids f))
nil-without f p = ap (λ g. is_nil (own g)) (block-without f p) ∙ nil-whole (block_kids f)

pub no-block : (f : Forest) → has_block (heading_part f) ≡ false → own (block_kids f) ≡ Nil
unfolding own
no-block Nil e = refl
no-block (Cons kind.Block w ns ks ts) e = absurd (true≢false e)
no-block (Cons k w ns ks ts) e = no-block ts e
