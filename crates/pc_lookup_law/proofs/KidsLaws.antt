-- The kids of a routine: a name, parameters where it has them, and a block, which stands last.
use Rattle.std.proofs.Common.{Bool, List, arith, eqb-true, false, refl, subst, suc, sym, true, ℕ, ◌&&◌, ◌<◌, ◌==◌, ◌≡◌}
use Rattle.std.proofs.lemmas.Bool.{and_parts}
use Rattle.pc_rule_laws.specs.Quiet.{Asked}
use Rattle.pc_rule_laws.specs.Roles.{Quiet, role}
use Rattle.pc_scope.specs.Blocks.{kid_count}
use Rattle.pc_scope.specs.Headings.{is_routine_kind}
use Rattle.pc_syntax.specs.Classes.{is_block, is_heads, is_name, is_params}
use Rattle.pc_syntax.specs.Fits.{takes_count, takes_from}
use Rattle.pc_syntax.specs.Plain.{Cons, Forest, Nil, count, kinds}
use Rattle.pc_syntax.specs.declared.kind.Kind.{Kind}
use Rattle.pc_syntax.specs.declared.kind.Kind.TheVariants as kind

-- whether the kind is that of a block with declarations
abbrev pub is_whole : Kind → Bool
is_whole kind.Block = true
is_whole _ = false

-- the kinds of what stands in a heading
abbrev pub heading_kind : Kind → Bool
heading_kind kind.Name = true
heading_kind kind.Names = true
heading_kind kind.Valparam = true
heading_kind kind.Varparam = true
heading_kind kind.Params = true
heading_kind kind.Heads = true
heading_kind kind.Forward = true
heading_kind (kind.Hole s) = true
heading_kind _ = false

pub heading-other : (k : Kind) → heading_kind k ≡ true → is_whole k ≡ false
heading-other kind.Block e = cc e
heading-other _ e = refl

-- how trees end in a block, by the first and those behind it
abbrev Ending : Kind → Forest → Type 0 → Type 0
Ending k Nil rest = is_block k ≡ true
Ending k (Cons j v os js ts) rest = (heading_kind k ≡ true) × rest

-- the last of some trees is a block, and those before it are of a heading
abbrev pub EndsInBlock : Forest → Type 0
EndsInBlock Nil = ⊥
EndsInBlock (Cons k w ns ks ts) = Ending k ts (EndsInBlock ts)

name-other : (k : Kind) → is_name k ≡ true → heading_kind k ≡ true
name-other kind.Name e = refl
name-other (kind.Hole s) e = refl
name-other _ e = cc e

-- the kids of a routine with its own heading, and of one that has a name and a block alone
pub data Headed (ks : Forest) : Type 0 where
  WithParameters : (j : Kind) → (v w : List ℕ) → (os ns : List (List ℕ)) → (js ps ts : Forest) → is_name j ≡ true → ks ≡ Cons j v os js (Cons kind.Params w ns ps ts) → EndsInBlock ts → Headed ks
  WithBlock : (j o : Kind) → (v u : List ℕ) → (os ms : List (List ℕ)) → (js us : Forest) → is_name j ≡ true → is_block o ≡ true → ks ≡ Cons j v os js (Cons o u ms us Nil) → Headed ks

no-more : (n m : ℕ) → (n == m) ≡ true → (n ≡ m → ⊥) → ⊥
no-more n m e f = f (eqb-true n m e)

params-are : (l : Kind) → is_params l ≡ true → l ≡ kind.Params
params-are kind.Params e = refl
params-are _ e = cc e

with-parameters : (j l : Kind) (v w : List ℕ) (os ns : List (List ℕ)) (js ps ts : Forest) → is_name j ≡ true → is_params l ≡ true → EndsInBlock ts → Headed (Cons j v os js (Cons l w ns ps ts))
with-parameters j l v w os ns js ps ts a b h = WithParameters j v w os ns js ps ts a (λ i. Cons j v os js (Cons (params-are l b i) w ns ps ts)) h

procedure-headed : (ks : Forest) → takes_count kind.Procedure (count ks) ≡ true → takes_from kind.Procedure 0 (kinds ks) ≡ true → Headed ks
procedure-headed Nil m e = absurd (no-more 0 3 m (λ f. absurd (omega (arith, f))))
procedure-headed (Cons j v os js Nil) m e = absurd (no-more 1 3 m (λ f. absurd (omega (arith, f))))
procedure-headed (Cons j v os js (Cons l w ns ps Nil)) m e = absurd (no-more 2 3 m (λ f. absurd (omega (arith, f))))
procedure-headed (Cons j v os js (Cons l w ns ps (Cons o u ms us Nil))) m e =
    let a = and_parts (is_name j) (is_params l && (is_block o && true)) e in
    let b = and_parts (is_params l) (is_block o && true) a.1 in
    with-parameters j l v w os ns js ps (Cons o u ms us Nil) a.0 b.0 (and_parts (is_block o) true b.1).0
procedure-headed (Cons j v os js (Cons l w ns ps (Cons o u ms us (Cons a b c d rest)))) m e =
    absurd (no-more (suc (suc (suc (suc (count rest))))) 3 m (λ f. absurd (omega (arith, f))))

function-headed : (ks : Forest) → takes_count kind.Function (count ks) ≡ true → takes_from kind.Function 0 (kinds ks) ≡ true → Headed ks
function-headed Nil m e = absurd (no-more 0 4 m (λ f. absurd (omega (arith, f))))
function-headed (Cons j v os js Nil) m e = absurd (no-more 1 4 m (λ f. absurd (omega (arith, f))))
function-headed (Cons j v os js (Cons l w ns ps Nil)) m e = absurd (no-more 2 4 m (λ f. absurd (omega (arith, f))))
function-headed (Cons j v os js (Cons l w ns ps (Cons r x xs rs Nil))) m e = absurd (no-more 3 4 m (λ f. absurd (omega (arith, f))))
function-headed (Cons j v os js (Cons l w ns ps (Cons r x xs rs (Cons o u ms us Nil)))) m e =
    let a = and_parts (is_name j) (is_params l && (is_name r && (is_block o && true))) e in
    let b = and_parts (is_params l) (is_name r && (is_block o && true)) a.1 in
    let c = and_parts (is_name r) (is_block o && true) b.1 in
    with-parameters j l v w os ns js ps (Cons r x xs rs (Cons o u ms us Nil)) a.0 b.0 (name-other r c.0, (and_parts (is_block o) true c.1).0)
function-headed (Cons j v os js (Cons l w ns ps (Cons r x xs rs (Cons o u ms us (Cons a b c d rest))))) m e =
    absurd (no-more (suc (suc (suc (suc (suc (count rest)))))) 4 m (λ f. absurd (omega (arith, f))))

body-headed : (ks : Forest) → takes_count kind.Funbody (count ks) ≡ true → takes_from kind.Funbody 0 (kinds ks) ≡ true → Headed ks
body-headed Nil m e = absurd (no-more 0 2 m (λ f. absurd (omega (arith, f))))
body-headed (Cons j v os js Nil) m e = absurd (no-more 1 2 m (λ f. absurd (omega (arith, f))))
body-headed (Cons j v os js (Cons o u ms us Nil)) m e =
    let a = and_parts (is_name j) (is_block o && true) e in
    WithBlock j o v u os ms js us a.0 (and_parts (is_block o) true a.1).0 refl
body-headed (Cons j v os js (Cons o u ms us (Cons a b c d rest))) m e =
    absurd (no-more (suc (suc (suc (count rest)))) 2 m (λ f. absurd (omega (arith, f))))

-- the kids of each routine of a well-formed program
pub headed : (k : Kind) (w : List ℕ) (ks : Forest) → is_routine_kind k ≡ true → Asked k w ks → Headed ks
headed kind.Procedure w ks e a = procedure-headed ks a.many a.placed
headed kind.Function w ks e a = function-headed ks a.many a.placed
headed kind.Funbody w ks e a = body-headed ks a.many a.placed
headed _ w ks e a = cc e

behind-parameters : (w : List ℕ) (ns : List (List ℕ)) (ps ts : Forest) → EndsInBlock ts → EndsInBlock (Cons kind.Params w ns ps ts)
behind-parameters w ns ps Nil h = absurd h
behind-parameters w ns ps (Cons k v os js ts) h = (refl, h)

pub headed-ends : (ks : Forest) → Headed ks → EndsInBlock ks
headed-ends ks (WithParameters j v w os ns js ps ts name e h) = subst EndsInBlock (sym e) (name-other j name, behind-parameters w ns ps ts h)
headed-ends ks (WithBlock j o v u os ms js us name e f) = subst EndsInBlock (sym f) (name-other j name, e)

-- the first of some trees is a name
abbrev pub NameFirst : Forest → Type 0
NameFirst Nil = ⊥
NameFirst (Cons k w ns ks ts) = is_name k ≡ true

pub headed-first : (ks : Forest) → Headed ks → NameFirst ks
headed-first ks (WithParameters j v w os ns js ps ts name e h) = subst NameFirst (sym e) name
headed-first ks (WithBlock j o v u os ms js us name e f) = subst NameFirst (sym f) name

-- the block is not the first kid
pub headed-count : (ks : Forest) → Headed ks → 1 < kid_count ks
headed-count ks (WithParameters j v w os ns js ps ts name e h) = subst (λ f. 1 < kid_count f) (sym e) (omega arith)
headed-count ks (WithBlock j o v u os ms js us name e f) = subst (λ x. 1 < kid_count x) (sym f) (omega arith)

heads-other : (k : Kind) → is_heads k ≡ true → heading_kind k ≡ true
heads-other kind.Heads e = refl
heads-other _ e = cc e

-- the second of some trees declares nothing, if there is one
abbrev pub SecondQuiet : Forest → Type 0
SecondQuiet Nil = Unit {0}
SecondQuiet (Cons j v os js Nil) = Unit {0}
SecondQuiet (Cons j v os js (Cons k w ns ks ts)) = role k ≡ Quiet

heads-quiet : (k : Kind) → is_heads k ≡ true → role k ≡ Quiet
heads-quiet kind.Heads e = refl
heads-quiet _ e = cc e

-- the kids of a program
pub record ProgramKids (ks : Forest) : Type 0 where
  pub first : NameFirst ks
  pub second : SecondQuiet ks
  pub ends : EndsInBlock ks
  pub count : kid_count ks ≡ 3

pub program-kids : (w : List ℕ) (ks : Forest) → Asked kind.Program w ks → ProgramKids ks
program-kids w Nil a = absurd (no-more 0 3 a.many (λ f. absurd (omega (arith, f))))
program-kids w (Cons j v os js Nil) a = absurd (no-more 1 3 a.many (λ f. absurd (omega (arith, f))))
program-kids w (Cons j v os js (Cons l x ns ps Nil)) a = absurd (no-more 2 3 a.many (λ f. absurd (omega (arith, f))))
program-kids w (Cons j v os js (Cons l x ns ps (Cons o u ms us Nil))) h =
    let a = and_parts (is_name j) (is_heads l && (is_block o && true)) h.placed in
    let b = and_parts (is_heads l) (is_block o && true) a.1 in
    record { first = a.0; second = heads-quiet l b.0; ends = (name-other j a.0, (heads-other l b.0, (and_parts (is_block o) true b.1).0)); count = refl }
program-kids w (Cons j v os js (Cons l x ns ps (Cons o u ms us (Cons a b c d rest)))) h =
    absurd (no-more (suc (suc (suc (suc (count rest))))) 3 h.many (λ f. absurd (omega (arith, f))))
