-- The frames as a stack.
use Rattle.std.proofs.Common.{◌≡◌, ◌-◌, List, [], ◌∷◌, ◌++◌, Some, length, slice_get, refl, ap, sym, ◌∙◌, arith}
use Rattle.pc_syntax.specs.declared.class.Class.{Class}
use Rattle.pc_parse.specs.declared.machine.Frame as code_frame
use Rattle.pc_parse.specs.Machine.{awaited}
use Rattle.pc_parse.specs.Measured as measured
use Rattle.pc_parse.specs.Views.{stack, frame_view}

pub stack_push : (fs : List code_frame.Frame) (f : code_frame.Frame) → stack (fs ++ f ∷ []) ≡ frame_view f ∷ stack fs
stack_push [] f = refl
stack_push (g ∷ fs) f = ap (λ l. l ++ frame_view g ∷ []) (stack_push fs f)

front : (root : Class) (xs : List measured.Frame) (y z : measured.Frame) → measured.awaited_by root ((xs ++ y ∷ []) ++ z ∷ []) ≡ measured.awaited_by root (xs ++ y ∷ [])
front root [] y z = refl
front root (x ∷ xs) y z = refl

last_from : (root : Class) (g f : code_frame.Frame) (gs : List code_frame.Frame) → Some f ≡ slice_get (g ∷ gs) (length gs) → measured.awaited_by root (stack (g ∷ gs)) ≡ awaited (frame_view f).items
last_from root g f [] e = let i : f ≡ g = cc in ap (λ h. awaited (frame_view h).items) (sym i)
last_from root g f (h ∷ gs) e = front root (stack gs) (frame_view h) (frame_view g) ∙ last_from root h f gs e

-- what is awaited stands in the last frame
pub stack_last : (root : Class) (fs : List code_frame.Frame) (f : code_frame.Frame) → Some f ≡ slice_get fs (length fs - 1) → measured.awaited_by root (stack fs) ≡ awaited (frame_view f).items
stack_last root [] f e = cc
stack_last root (g ∷ gs) f e = last_from root g f gs (e ∙ ap (slice_get (g ∷ gs)) (omega arith))
