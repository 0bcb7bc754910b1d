-- Places in the heading of a routine: names mean there what they mean around it.
use Rattle.std.proofs.Common.{◌≡◌, ℕ, Bool, true, false, if◌then◌else◌, List, [], ◌∷◌, ◌++◌, refl, sym, ◌∙◌, ap, subst, true≢false}
use Rattle.pc_syntax.specs.declared.kind.Kind.{Kind}
use Rattle.pc_syntax.specs.declared.kind.Kind.TheVariants as kind
use Rattle.pc_syntax.specs.declared.class.Class.TheVariants as class
use Rattle.pc_syntax.specs.Classes.{has}
use Rattle.pc_syntax.specs.Plain.{Plain, Forest, Cons}
use Rattle.pc_syntax.specs.Words.{lowered}
use Rattle.pc_types.specs.Shapes.{Owner, Typed}
use Rattle.pc_rules.specs.Attributes.{Attributes, Marked}
use Rattle.pc_rules.specs.Decorated.{seen, unseen, rule}
use Rattle.pc_rules.specs.Meanings.{Meaning, Found, Local, Outside, find}
use Rattle.pc_rules.specs.Places.{pass, pass_all, beside}
use Rattle.pc_rules.specs.Routines.{bare, heading_start}
use Rattle.pc_rules.specs.OwnBlock.{heading_part}
use Rattle.pc_environment.specs.Decorating.{attributes_at, place_behind}
use Rattle.pc_environment.specs.QuietLaws.{body-defines}
use Rattle.pc_environment.specs.Sight.{Sight, is_body}
use Rattle.pc_environment.specs.SightLaws.{sight-behind}
use Rattle.pc_pointers.specs.Good.{Targets, IsGoodFound}
use Rattle.pc_carrying.specs.Carrying.{IsCarriedName}
use Rattle.pc_carrying.specs.Parts.{NamesGood}
use Rattle.pc_targets.specs.Blocks.{MeansGood}

-- ---- places in a heading

pub start-names : (targets : Targets) (m : List ℕ → Found) (o : Owner) → MeansGood targets m → NamesGood targets (bare m) (heading_start o)
unfolding find
start-names targets m o h n = h n

same-names : (targets : Targets) (out : Outside) (l : Local) (f : List ℕ → Found) → find out l ≡ f → MeansGood targets f → NamesGood targets out l
same-names targets out l f e h = subst (MeansGood targets) (sym e) h

name-body : (k : Kind) → has class.Name k ≡ true → is_body k ≡ true
name-body kind.Name e = refl
name-body (kind.Hole s) e = refl
name-body _ e = absurd (true≢false (sym e))

-- behind the name
pub behind-name : (targets : Targets) (out : Outside) (l : Local) (t : Plain) → has class.Name t.kind ≡ true → l.opening ≡ false → NamesGood targets out l → NamesGood targets out (place_behind out l t)
behind-name targets out l t e o h =
    let body = name-body t.kind e in
    same-names targets out (place_behind out l t) (find out l) (ap (λ (s : Sight). s.means) (sight-behind out l t.kind (attributes_at out l t) body (body-defines out l t body) o)) h

passed-find : (out : Outside) (l : Local) (n : List ℕ) (fs : List (List ℕ × (Typed × Bool))) (x : List ℕ) → find out (record (pass l x) { fields = fs }) n ≡ find out (record l { fields = fs }) n
unfolding find
passed-find out l n fs [] = refl
passed-find out l n fs (c ∷ cs) = refl

all-passed-find : (out : Outside) (l : Local) (n : List ℕ) (fs : List (List ℕ × (Typed × Bool))) (ds : List (List ℕ × Meaning)) →
    find out (record (pass_all l ds) { fields = fs }) n ≡ find out (record l { fields = fs }) n
unfolding find
all-passed-find out l n fs [] = refl
all-passed-find out l n fs (d ∷ ds) = all-passed-find out (pass l d.0) n fs ds ∙ passed-find out l n fs d.0

params-find : (out : Outside) (l : Local) (k : Kind) (a : Attributes) (n : List ℕ) → has class.Params k ≡ true → l.opening ≡ false → find out (beside l k a) n ≡ find out l n
unfolding find
params-find out l kind.Params a n e o =
    all-passed-find out l n (if l.opening then a.opens ++ l.fields else l.fields) a.defines ∙ ap (λ (b : Bool). find out (record l { fields = if b then a.opens ++ l.fields else l.fields }) n) o
params-find out l (kind.Hole s) a n e o = ap (λ (b : Bool). find out (record l { fields = if b then a.opens ++ l.fields else l.fields }) n) o
params-find out l k a n e o = absurd (true≢false (sym e))

-- behind the parameters
pub behind-params : (targets : Targets) (out : Outside) (l : Local) (t : Plain) → has class.Params t.kind ≡ true → l.opening ≡ false → NamesGood targets out l → NamesGood targets out (place_behind out l t)
behind-params targets out l t e o h n =
    subst (λ (f : Found). IsCarriedName targets [] n f × IsGoodFound targets f) (sym (params-find out l t.kind (attributes_at out l t) n e o)) (h n)

-- ---- the name of the result type

pub found-good : (targets : Targets) (out : Outside) (l : Local) (k : Kind) (w : List ℕ) (m : Marked) → has class.Name k ≡ true → NamesGood targets out l →
    IsGoodFound targets (rule l k w (seen out l k w) m).found
unfolding rule
found-good targets out l kind.Name w m e h = by l.using where
  by : (b : Bool) → IsGoodFound targets (if b then record { found = find out l (lowered w); changed = out.touched (lowered w) } else unseen).found
  by true = (h (lowered w)).1
  by false = tt
found-good targets out l (kind.Hole s) w m e h = tt
found-good targets out l k w m e h = absurd (true≢false (sym e))

-- ---- the kids of a heading

-- the name and the list of parameters stay in it as they are
pub name-part : (j : Kind) (v : List ℕ) (os : List (List ℕ)) (js ts : Forest) → has class.Name j ≡ true → heading_part (Cons j v os js ts) ≡ Cons j v os js (heading_part ts)
name-part kind.Name v os js ts e = refl
name-part (kind.Hole s) v os js ts e = refl
name-part _ v os js ts e = absurd (true≢false (sym e))

pub params-part : (p : Kind) (v : List ℕ) (os : List (List ℕ)) (js ts : Forest) → has class.Params p ≡ true → heading_part (Cons p v os js ts) ≡ Cons p v os js (heading_part ts)
params-part kind.Params v os js ts e = refl
params-part (kind.Hole s) v os js ts e = refl
params-part _ v os js ts e = absurd (true≢false (sym e))
