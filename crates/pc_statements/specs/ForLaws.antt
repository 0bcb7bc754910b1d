-- Control variables of for statements, by numbers: lemmas.
use Rattle.std.specs.Prelude.{◌≡◌, ◌<◌, ◌+◌, ℕ, Bool, true, false, ◌&&◌, ◌||◌, List, [], ◌∷◌, ◌++◌, Option, Some, None, map, take, length, get_or, slice_get, option_map, if◌then◌else◌, zero, suc}
use Rattle.std.specs.Option.{option_map_or}
use Rattle.std.specs.Str.{bytes_eq}
use Rattle.std.proofs.Common.{refl, ap, sym, ◌∙◌, subst}
use Rattle.std.proofs.lemmas.List.{get_or-map, length-map, map-append, take_more}
use Rattle.std.proofs.lemmas.Slice.Eq.{bytes_eq-Decides}
use Rattle.pc_syntax.specs.Classes.{is_name}
use Rattle.pc_syntax.specs.Plain.{Plain}
use Rattle.pc_syntax.specs.Sorts.{is_hole}
use Rattle.pc_syntax.specs.Words.{lowered}
use Rattle.pc_syntax.specs.declared.kind.Kind.{Kind}
use Rattle.pc_syntax.specs.declared.kind.Kind.TheVariants as kind
use Rattle.pc_types.specs.Sameness.{same_owner}
use Rattle.pc_types.specs.Shapes.{Owner}
use Rattle.pc_types.specs.Table.{nobody}
use Rattle.pc_names.specs.Numbers.{AreDistinct, number_of}
use Rattle.pc_names.specs.TableLaws.{slice_get-number_of}
use Rattle.pc_rules.specs.Attributes.{Attributes, Marked}
use Rattle.pc_rules.specs.Decorated.{seen, unseen, rule}
use Rattle.pc_rules.specs.ForStatements.{stands_among}
use Rattle.pc_rules.specs.Meanings.{Local, Outside, find}
use Rattle.pc_environment.specs.Decorating.{attributes_at, below_at}
use Rattle.pc_environment.specs.DecoratingLaws.{at-node}
use Rattle.pc_sightings.specs.TouchedLog.{numbers_of, stands_in, stands_since, ShowsTouched, AreApart}
use Rattle.pc_sightings.specs.TouchedLaws.{stands_among-numbers, stands_since-behind}
use Rattle.pc_facts.specs.Known.{Known}
use Rattle.pc_facts.specs.declared.sighting.Variable.{Variable}
use Rattle.pc_call_rules.specs.Parameters.{ShowsVariables, Logs}

-- ---- names without a number

none-later : (c : Bool) (o : Option ℕ) → (if c then Some 0 else option_map suc o) ≡ None → (c ≡ false) × (o ≡ None)
none-later true o e = cc
none-later false None e = (refl, refl)
none-later false (Some i) e = cc

-- a name that stands at a number has one
numbered : (ms : List (List ℕ)) (i : ℕ) (n : List ℕ) → slice_get ms i ≡ Some n → number_of ms n ≡ None → ⊥
numbered [] i n at none = cc
numbered (m ∷ ms) zero n at none =
    let same : m ≡ n = cc in
    let t : bytes_eq n m ≡ true = (bytes_eq-Decides n m).1 (sym same) in
    let f : bytes_eq n m ≡ false = (none-later (bytes_eq n m) (number_of ms n) none).0 in cc
numbered (m ∷ ms) (suc i) n at none = numbered ms i n at (none-later (bytes_eq n m) (number_of ms n) none).1

neither : (a c : Bool) → c ≡ false → (a && c) ≡ false
neither true c e = e
neither false c e = refl

other-name : (ms : List (List ℕ)) (i : ℕ) (m n : List ℕ) → slice_get ms i ≡ Some m → number_of ms n ≡ None → bytes_eq m n ≡ false
other-name ms i m n at none = by (bytes_eq m n) refl
  where
    by : (c : Bool) → bytes_eq m n ≡ c → bytes_eq m n ≡ false
    by false e = e
    by true e =
        let same : m ≡ n = (bytes_eq-Decides m n).0 e in absurd (numbered ms i n (subst (λ (x : List ℕ). slice_get ms i ≡ Some x) same at) none)

-- a name without a number is that of no variable that was touched
among-none : (k : Known) (vs : List Variable) (ws : List (Owner × List ℕ)) (o : Owner) (n : List ℕ) → ShowsVariables k vs ws → number_of k.names n ≡ None → stands_among ws o n ≡ false
among-none k [] [] o n shown none = refl
among-none k (v ∷ vs) (w ∷ ws) o n shown none =
    let one : (same_owner w.0 o && bytes_eq w.1 n) ≡ false = neither (same_owner w.0 o) (bytes_eq w.1 n) (other-name k.names v.name.0 w.1 n shown.0.2 none) in
    ap (λ (c : Bool). c || stands_among ws o n) one ∙ among-none k vs ws o n shown.1 none
among-none k [] (w ∷ ws) o n shown none = absurd shown
among-none k (v ∷ vs) [] o n shown none = absurd shown

-- ---- what the body of a for touches

-- variables by their numbers
touched-numbers : (k : Known) (vs : List Variable) (ws : List (Owner × List ℕ)) → ShowsVariables k vs ws → ShowsTouched k.table.owners k.names (map numbers_of vs) ws
touched-numbers k [] [] shown = tt
touched-numbers k (v ∷ vs) (w ∷ ws) shown = (shown.0, touched-numbers k vs ws shown.1)
touched-numbers k [] (w ∷ ws) shown = absurd shown
touched-numbers k (v ∷ vs) [] shown = absurd shown

since-log : (old new vs : List Variable) (v : ℕ × ℕ) → new ≡ old ++ vs → stands_since (length old) (map numbers_of new) v ≡ stands_in (map numbers_of vs) v
since-log old new vs v e =
    ap (λ (us : List Variable). stands_since (length old) (map numbers_of us) v) e
    ∙ ap (λ (us : List (ℕ × ℕ)). stands_since (length old) us v) (map-append numbers_of old vs)
    ∙ ap (λ (i : ℕ). stands_since i (map numbers_of old ++ map numbers_of vs) v) (sym (length-map old numbers_of))
    ∙ stands_since-behind (map numbers_of old) (map numbers_of vs) v

-- whether a variable of a block with a name that may have a number stands in a log since a mark
abbrev pub changed_since : ℕ → List (ℕ × ℕ) → ℕ → Option ℕ → Bool
changed_since mark log owner name = option_map_or (λ i. stands_since mark log (owner, i)) name false

-- the variable stands in the log since the mark exactly where the rules find it among those that were touched behind it
pub changed-among : (k : Known) (owner : ℕ) (o : Owner) (n : List ℕ) (old new : List Variable) (ws : List (Owner × List ℕ)) (name : Option ℕ) → AreApart k.table.owners → AreDistinct k.names →
    get_or k.table.owners owner nobody ≡ o → owner < length k.table.owners → number_of k.names n ≡ name → Logs k old new ws →
    changed_since (length old) (map numbers_of new) owner name ≡ stands_among ws o n
changed-among k owner o n old new ws None apart distinct is there at logs = sym (among-none k logs.0 ws o n logs.2 at)
changed-among k owner o n old new ws (Some i) apart distinct is there at logs =
    since-log old new logs.0 (owner, i) logs.1
    ∙ sym (stands_among-numbers k.table.owners k.names apart distinct (map numbers_of logs.0) ws (touched-numbers k logs.0 ws logs.2) (owner, i) (o, n) (is, there, slice_get-number_of k.names n i at))

-- ---- what routines inside touch

changed-by : (l : Local) (k : Kind) (w : List ℕ) (out : Outside) (m : Marked) → is_name k ≡ true → l.using ≡ true → (rule l k w (seen out l k w) m).changed ≡ (if is_hole k then false else out.touched (lowered w))
unfolding rule
changed-by l kind.Name w out m is using = ap (λ (c : Bool). (if c then record { found = find out l (lowered w); changed = out.touched (lowered w) } else unseen).changed) using
changed-by l (kind.Hole s) w out m is using = refl
changed-by l k w out m is using = cc

-- a used name has what the place says of it
pub changed-at : (out : Outside) (l : Local) (t : Plain) → is_name t.kind ≡ true → l.using ≡ true → (attributes_at out l t).changed ≡ (if is_hole t.kind then false else out.touched (lowered t.word))
changed-at out l t is using = ap (λ (a : Attributes). a.changed) (at-node out l t) ∙ changed-by l t.kind t.word out (below_at out l t) is using

-- ---- an index that catches up

-- one more variable of the log was noted
pub noted-more : (xs : List Variable) (i : ℕ) (d : Variable) (old new : List (ℕ × ℕ)) → i < length xs → new ≡ old ++ numbers_of (get_or xs i d) ∷ [] → old ≡ take i (map numbers_of xs) →
    new ≡ take (i + 1) (map numbers_of xs)
noted-more xs i d old new within e h =
    e ∙ ap (λ (us : List (ℕ × ℕ)). us ++ numbers_of (get_or xs i d) ∷ []) h
    ∙ sym (take_more (map numbers_of xs) i (numbers_of d) (subst (λ (n : ℕ). i < n) (sym (length-map xs numbers_of)) within)
    ∙ ap (λ (v : ℕ × ℕ). take i (map numbers_of xs) ++ v ∷ []) (get_or-map numbers_of xs i d (numbers_of d) within))
