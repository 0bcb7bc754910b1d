-- What a line does to the commands ahead.
use Rattle.std.proofs.Common.{◌≡◌, ℕ, true, false, List, [], ◌∷◌, ◌++◌, Option, Some, None, refl}
use Rattle.std.specs.Str.{bytes_eq}
use Rattle.pc_script.specs.Ahead.{Ahead, Takes, IsSame, IsDone, IsCutOff}
use Rattle.pc_script.specs.Reading.{Reading, Took, Fails, over}
use Rattle.pc_script.proofs.ReadingSteps.{Took-none, Took-over, Fails-over}
use Rattle.pc_command.specs.Form.{is_skipped, here_word}
use Rattle.pc_script.specs.Script.{shortened, commands, commands_ahead, after_line, Place, Between, InText}
use Rattle.pc_script.specs.declared.ahead.Next.TheVariants.{Item, End, TooMany}

ahead-is : {X : Type 0} (a b : Ahead X) (x : X) → a.items ≡ x ∷ b.items → b.further ≡ a.further → a ≡ record { items = x ∷ b.items; further = b.further }
ahead-is a b x items further = rw (← items, further) refl

-- What a line is followed by, where it comes first.
same-skipped : (x : List ℕ) (a b : Ahead (List ℕ)) → Takes (Item x) a b → is_skipped x ≡ true → IsSame (commands_ahead Between a) (commands_ahead Between b)
unfolding commands_ahead commands
same-skipped x a b t skipped = rw (ahead-is a b x t.0 t.1, skipped) refl

same-begun : (x : List ℕ) (a b : Ahead (List ℕ)) → Takes (Item x) a b → IsSame (commands_ahead Between a) (after_line x b)
same-begun x a b t = rw (ahead-is a b x t.0 t.1) refl

takes-plain : (x : List ℕ) (a : Ahead (List ℕ)) → is_skipped x ≡ false → here_word x ≡ None →
    Takes (Item (record { line = x; here = None })) (after_line x a) (commands_ahead Between a)
unfolding commands_ahead commands
takes-plain x a skipped none = rw (skipped, none) (refl, refl)

same-text : (x word : List ℕ) (a : Ahead (List ℕ)) → is_skipped x ≡ false → here_word x ≡ Some word →
    IsSame (after_line x a) (commands_ahead (InText x word []) a)
unfolding commands_ahead commands
same-text x word a skipped some = rw (skipped, some) refl

same-in_text : (x line word text : List ℕ) (a b : Ahead (List ℕ)) → Takes (Item x) a b → bytes_eq x word ≡ false →
    IsSame (commands_ahead (InText line word text) a) (commands_ahead (InText line word (shortened (text ++ x ++ 10 ∷ []))) b)
unfolding commands_ahead commands
same-in_text x line word text a b t other = rw (ahead-is a b x t.0 t.1, other) refl

takes-text : (x line word text : List ℕ) (a b : Ahead (List ℕ)) → Takes (Item x) a b → bytes_eq x word ≡ true →
    Takes (Item (record { line = line; here = Some text })) (commands_ahead (InText line word text) a) (commands_ahead Between b)
unfolding commands_ahead commands
takes-text x line word text a b t same = rw (ahead-is a b x t.0 t.1, same) (refl, refl)

-- No line comes: the script is done, or cut off.
done-between : (a : Ahead (List ℕ)) → IsDone a → IsDone (commands_ahead Between a)
unfolding commands_ahead commands
done-between a d = rw (d.0, d.1) (refl, refl)

done-in_text : (line word text : List ℕ) (a b : Ahead (List ℕ)) → Takes End a b →
    Takes (Item (record { line = line; here = None })) (commands_ahead (InText line word text) a) (commands_ahead Between b)
unfolding commands_ahead commands
done-in_text line word text a b t = rw (t.0.0, t.0.1, t.1.0, t.1.1) (refl, refl)

cut_off : (place : Place) (a : Ahead (List ℕ)) → IsCutOff a → IsCutOff (commands_ahead place a)
unfolding commands_ahead commands
cut_off Between a d = rw (d.0, d.1) (refl, refl)
cut_off (InText line word text) a d = rw (d.0, d.1) (refl, refl)

-- A line that is no command.
pub Took-skipped : (r s : Reading (List ℕ)) (x : List ℕ) → Took r s (Takes (Item x)) → is_skipped x ≡ true →
    Took (over (commands_ahead Between) r) (over (commands_ahead Between) s) IsSame
Took-skipped r s x t skipped =
    Took-over (commands_ahead Between) (commands_ahead Between) r s (Takes (Item x)) IsSame t (λ a b p. same-skipped x a b p skipped)

-- Any other line begins a command.
pub Took-begun : (r s : Reading (List ℕ)) (x : List ℕ) → Took r s (Takes (Item x)) → Took (over (commands_ahead Between) r) (over (after_line x) s) IsSame
Took-begun r s x t = Took-over (commands_ahead Between) (after_line x) r s (Takes (Item x)) IsSame t (same-begun x)

-- It takes no text.
pub Took-plain : (r : Reading (List ℕ)) (x : List ℕ) → is_skipped x ≡ false → here_word x ≡ None →
    Took (over (after_line x) r) (over (commands_ahead Between) r) (Takes (Item (record { line = x; here = None })))
Took-plain r x skipped none =
    Took-none (over (after_line x) r) (over (commands_ahead Between) r) (Takes (Item (record { line = x; here = None }))) refl refl
    (λ rest more m. takes-plain x (r.ahead rest more) skipped none)

-- It takes a text.
pub Took-begun_text : (r : Reading (List ℕ)) (x word : List ℕ) → is_skipped x ≡ false → here_word x ≡ Some word →
    Took (over (after_line x) r) (over (commands_ahead (InText x word [])) r) IsSame
Took-begun_text r x word skipped some =
    Took-none (over (after_line x) r) (over (commands_ahead (InText x word [])) r) IsSame refl refl
    (λ rest more m. same-text x word (r.ahead rest more) skipped some)

-- A line of the text.
pub Took-in_text : (r s : Reading (List ℕ)) (x line word text : List ℕ) → Took r s (Takes (Item x)) → bytes_eq x word ≡ false →
    Took (over (commands_ahead (InText line word text)) r) (over (commands_ahead (InText line word (shortened (text ++ x ++ 10 ∷ [])))) s) IsSame
Took-in_text r s x line word text t other =
    Took-over (commands_ahead (InText line word text)) (commands_ahead (InText line word (shortened (text ++ x ++ 10 ∷ [])))) r s (Takes (Item x)) IsSame t
    (λ a b p. same-in_text x line word text a b p other)

-- The line that ends the text.
pub Took-text : (r s : Reading (List ℕ)) (x line word text : List ℕ) → Took r s (Takes (Item x)) → bytes_eq x word ≡ true →
    Took (over (commands_ahead (InText line word text)) r) (over (commands_ahead Between) s) (Takes (Item (record { line = line; here = Some text })))
Took-text r s x line word text t same =
    Took-over (commands_ahead (InText line word text)) (commands_ahead Between) r s (Takes (Item x)) (Takes (Item (record { line = line; here = Some text }))) t
    (λ a b p. takes-text x line word text a b p same)

-- The script ends, between two commands or in a text.
pub Took-end_between : (r s : Reading (List ℕ)) → Took r s (Takes End) → Took (over (commands_ahead Between) r) (over (commands_ahead Between) s) (Takes End)
Took-end_between r s t =
    Took-over (commands_ahead Between) (commands_ahead Between) r s (Takes End) (Takes End) t (λ a b p. (done-between a p.0, done-between b p.1))

pub Took-end_in_text : (r s : Reading (List ℕ)) (line word text : List ℕ) → Took r s (Takes End) →
    Took (over (commands_ahead (InText line word text)) r) (over (commands_ahead Between) s) (Takes (Item (record { line = line; here = None })))
Took-end_in_text r s line word text t =
    Took-over (commands_ahead (InText line word text)) (commands_ahead Between) r s (Takes End) (Takes (Item (record { line = line; here = None }))) t
    (done-in_text line word text)

-- The units end, or the source fails, at any place.
pub Took-too_many : (place : Place) (r s : Reading (List ℕ)) → Took r s (Takes TooMany) →
    Took (over (commands_ahead place) r) (over (commands_ahead Between) s) (Takes TooMany)
Took-too_many place r s t =
    Took-over (commands_ahead place) (commands_ahead Between) r s (Takes TooMany) (Takes TooMany) t (λ a b p. (cut_off place a p.0, cut_off Between b p.1))

pub Fails-at : (place : Place) (r : Reading (List ℕ)) (after : Option (List ℕ)) → Fails r after → Fails (over (commands_ahead place) r) after
Fails-at place r after f = Fails-over (commands_ahead place) r after f (cut_off place)
