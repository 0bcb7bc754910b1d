-- What is answered to a command of a script is determined, from the laws of the session.
use Rattle.std.proofs.Common.{◌≡◌, ◌≢◌, ℕ, List, [], Option, Some, None, Result, Ok, Err, inl, inr, refl, sym, ◌∙◌, ap}
use Rattle.pc_syntax.specs.Plain.{Plain}
use Rattle.pc_script.specs.declared.given.Given.{Given}
use Rattle.pc_command.specs.declared.command.Command.{Command}
use Rattle.pc_command.specs.declared.command.Command.TheVariants.{Load, Put, Add, Fill, Retype, Cut, Undo, Redo, Show}
use Rattle.pc_command.specs.declared.error.CommandError.{CommandError}
use Rattle.pc_command.specs.declared.answer.Answer.{Answer}
use Rattle.pc_command.specs.declared.answer.Answer.TheVariants.{Edited, Done, Shown, Refused, Wrong}
use Rattle.pc_command.specs.declared.refusal.Refusal.{Refusal}
use Rattle.pc_command.specs.declared.refusal.Refusal.TheVariants.{NoMemory}
use Rattle.pc_command.specs.Lines.{reading}
use Rattle.pc_command.specs.Replies.{reply_of}
use Rattle.pc_session.specs.declared.accepted.Accepted.{Accepted}
use Rattle.pc_session.specs.declared.made.Made.{Made}
use Rattle.pc_session.specs.PlainSession.{PlainSession, watched}
use Rattle.pc_session.specs.Editing.{Writes, Puts, Adds, Fills, Retypes, Cuts}
use Rattle.pc_session.specs.Commands.{Edits, IsUndone, IsRedone, shown}
use Rattle.pc_session.specs.CommandsLaws.{OneEdit, OneLoad, OnePut, OneAdd, OneFill, OneRetype, OneCut, OneUndone, OneRedone}
use Rattle.pc_transcript.specs.declared.piece.Piece.{Piece}
use Rattle.pc_transcript.specs.State.{State}
use Rattle.pc_transcript.specs.Obeying.{edited, moved, AnswersEdit, AnswersMove, AnswersText, Does, piece_of, Obeys, RepliesTo, Answers, no_memory}
use Rattle.pc_transcript.specs.ReplyLaws.{OneReply}

-- The laws of the commands.
pub record Laws : Type 0 where
  pub load : OneLoad
  pub put : OnePut
  pub add : OneAdd
  pub fill : OneFill
  pub retype : OneRetype
  pub cut : OneCut
  pub undone : OneUndone
  pub redone : OneRedone

edit_answer : (makes : Plain → Result Made Refusal → Type 0) → OneEdit makes → (s t u : PlainSession) (a b : Answer) → a ≢ Refused NoMemory → b ≢ Refused NoMemory →
    AnswersEdit (λ r. Edits makes s r t) a → AnswersEdit (λ r. Edits makes s r u) b → (a ≡ b) × (t ≡ u)
edit_answer makes one s t u (Edited c d) (Edited e f) left right x y =
    let z = one s t u (Ok (record { count = c; dropped = d })) (Ok (record { count = e; dropped = f })) (λ e. cc) (λ e. cc) x y in (ap edited z.0, z.1)
edit_answer makes one s t u (Edited c d) (Refused r) left right x y =
    let z = one s t u (Ok (record { count = c; dropped = d })) (Err r) (λ e. cc) (λ e. right cc) x y in (ap edited z.0, z.1)
edit_answer makes one s t u (Refused r) (Edited e f) left right x y =
    let z = one s t u (Err r) (Ok (record { count = e; dropped = f })) (λ e. left cc) (λ e. cc) x y in (ap edited z.0, z.1)
edit_answer makes one s t u (Refused r) (Refused v) left right x y =
    let z = one s t u (Err r) (Err v) (λ e. left cc) (λ e. right cc) x y in (ap edited z.0, z.1)
edit_answer makes one s t u (Edited c d) (_) left right x never = absurd never
edit_answer makes one s t u (Refused r) (_) left right x never = absurd never
edit_answer makes one s t u (_) b left right never y = absurd never

move_answer : (does : PlainSession → Result ℕ Refusal → PlainSession → Type 0) →
    ((s t u : PlainSession) (a b : Result ℕ Refusal) → does s a t → does s b u → (a ≡ b) × (t ≡ u)) → (s t u : PlainSession) (a b : Answer) →
    AnswersMove (λ r. does s r t) a → AnswersMove (λ r. does s r u) b → (a ≡ b) × (t ≡ u)
move_answer does one s t u (Done c) (Done d) x y = let z = one s t u (Ok c) (Ok d) x y in (ap moved z.0, z.1)
move_answer does one s t u (Done c) (Refused r) x y = let z = one s t u (Ok c) (Err r) x y in (ap moved z.0, z.1)
move_answer does one s t u (Refused r) (Done d) x y = let z = one s t u (Err r) (Ok d) x y in (ap moved z.0, z.1)
move_answer does one s t u (Refused r) (Refused v) x y = let z = one s t u (Err r) (Err v) x y in (ap moved z.0, z.1)
move_answer does one s t u (Done c) (_) x never = absurd never
move_answer does one s t u (Refused r) (_) x never = absurd never
move_answer does one s t u (_) b never y = absurd never

text_answer : (text : List ℕ) (a b : Answer) → a ≢ Refused NoMemory → b ≢ Refused NoMemory → AnswersText text a → AnswersText text b → a ≡ b
text_answer text (Shown xs) (Shown ys) left right x y = ap (λ z. Shown z) (x ∙ sym y)
text_answer text a (Refused NoMemory) left right x y = absurd (right refl)
text_answer text (Refused NoMemory) b left right x y = absurd (left refl)
text_answer text (Shown xs) (_) left right x never = absurd never
text_answer text (_) b left right never y = absurd never

one_doing : Laws → (command : Command) (s t u : PlainSession) (a b : Answer) → a ≢ Refused NoMemory → b ≢ Refused NoMemory →
    Does command s a t → Does command s b u → (a ≡ b) × (t ≡ u)
one_doing laws (Load text) s t u a b left right x y = edit_answer (Writes text) (laws.load text) s t u a b left right x y
one_doing laws (Put path name) s t u a b left right x y = edit_answer (Puts path name) (laws.put path name) s t u a b left right x y
one_doing laws (Add path k name) s t u a b left right x y = edit_answer (Adds path k name) (laws.add path k name) s t u a b left right x y
one_doing laws (Fill path text) s t u a b left right x y = edit_answer (Fills path text) (laws.fill path text) s t u a b left right x y
one_doing laws (Retype range text) s t u a b left right x y = edit_answer (Retypes range text) (laws.retype range text) s t u a b left right x y
one_doing laws (Cut path) s t u a b left right x y = edit_answer (Cuts path) (laws.cut path) s t u a b left right x y
one_doing laws Undo s t u a b left right x y = move_answer IsUndone laws.undone s t u a b x y
one_doing laws Redo s t u a b left right x y = move_answer IsRedone laws.redone s t u a b x y
one_doing laws (Show name) s t u a b left right x y = (text_answer (shown name s) a b left right x.0 y.0, x.1 ∙ sym y.1)

refused-no_memory : piece_of (Refused NoMemory) [] ≡ no_memory
unfolding reply_of
refused-no_memory = refl

same-state : (t u : State) → t.session ≡ u.session → t.files ≡ u.files → t ≡ u
same-state t u session files = λ i. record { session = session i; files = files i }

remembers : (p : Piece) (a : Answer) → p ≢ no_memory → p ≡ piece_of a [] → a ≢ Refused NoMemory
remembers p a other is same = other (is ∙ ap (λ z. piece_of z []) same ∙ refused-no_memory)

one_obeying : Laws → (command : Command) (s t u : State) (p q : Piece) → p ≢ no_memory → q ≢ no_memory → Obeys command s p t → Obeys command s q u → (p ≡ q) × (t ≡ u)
one_obeying laws command s t u p q left right x y =
    let z = one_doing laws command s.session t.session u.session x.0 y.0 (remembers p x.0 left x.2) (remembers q y.0 right y.2) x.1 y.1 in
    (x.2 ∙ ap (λ a. piece_of a []) z.0 ∙ sym y.2, same-state t u z.1 (x.3 ∙ sym y.3))

one_line : Laws → (r : Result (Option Command) CommandError) (s t u : State) (p q : Piece) → p ≢ no_memory → q ≢ no_memory →
    RepliesTo r s p t → RepliesTo r s q u → (p ≡ q) × (t ≡ u)
one_line laws (Ok (Some command)) s t u p q left right x y = one_obeying laws command s t u p q left right x y
one_line laws (Ok None) s t u p q left right x y = (x.0 ∙ sym y.0, x.1 ∙ sym y.1)
one_line laws (Err error) s t u p q left right x y = (x.0 ∙ sym y.0, x.1 ∙ sym y.1)

pub one_reply : Laws → OneReply
unfolding Answers
one_reply laws s t u given p q left right (inl x) (inl y) = one_line laws (reading given.line given.here) s t u p q left right x y
one_reply laws s t u given p q left right (inr x) y = absurd (left x.0)
one_reply laws s t u given p q left right x (inr y) = absurd (right y.0)
