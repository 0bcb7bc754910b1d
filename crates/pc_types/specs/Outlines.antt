-- Tests of types by their outlines.
use Rattle.std.specs.Prelude.{ℕ, Bool, true, false, Option, Some, None, pos, ℤ, ◌-ℤ◌, length}
use Rattle.pc_types.specs.TypeClasses.{maxint}
use Rattle.pc_types.specs.declared.form.TypeId.{TypeId}
use Rattle.pc_types.specs.declared.form.DomainId.{DomainId}
use Rattle.pc_types.specs.declared.form.Form.{Form}
use Rattle.pc_types.specs.declared.form.Form.TheVariants as form
use Rattle.pc_types.specs.declared.operand.Operand.{Operand}
use Rattle.pc_types.specs.declared.operand.Operand.TheVariants as operand
use Rattle.pc_types.specs.declared.operand.Outline.{Outline}
use Rattle.pc_types.specs.declared.operand.Outline.TheVariants as outline

-- the outline of a form
abbrev pub outline_of : Form → Outline
outline_of form.Integer = outline.Integer
outline_of form.Boolean = outline.Boolean
outline_of form.Char = outline.Char
outline_of form.Nil = outline.Nil
outline_of (form.Named names) = outline.Named (pos (length names) -ℤ pos 1)
outline_of (form.Subrange host low high) = outline.Subrange host low high
outline_of (form.Array packed index element) = outline.Array packed index element
outline_of (form.Record packed fields) = outline.Record packed
outline_of (form.Set packed base) = outline.Set packed base
outline_of (form.Members (Some base)) = outline.Members base
outline_of (form.Members None) = outline.NoMembers
outline_of (form.Text n) = outline.Text n
outline_of (form.Pointer domain) = outline.Pointer domain

-- which required type it is, 0 for all others
abbrev pub outline_number : Outline → ℕ
outline_number outline.Integer = 1
outline_number outline.Boolean = 2
outline_number outline.Char = 3
outline_number outline.Nil = 4
outline_number _ = 0

-- whether a denoter of the program defines it
abbrev pub outline_is_defined : Outline → Bool
outline_is_defined (outline.Named n) = true
outline_is_defined (outline.Subrange h a b) = true
outline_is_defined (outline.Array p i e) = true
outline_is_defined (outline.Record p) = true
outline_is_defined (outline.Set p b) = true
outline_is_defined (outline.Pointer d) = true
outline_is_defined _ = false

abbrev pub outline_is_ordinal : Outline → Bool
outline_is_ordinal outline.Integer = true
outline_is_ordinal outline.Boolean = true
outline_is_ordinal outline.Char = true
outline_is_ordinal (outline.Named n) = true
outline_is_ordinal (outline.Subrange h a b) = true
outline_is_ordinal _ = false

abbrev pub outline_is_subrange : Outline → Bool
outline_is_subrange (outline.Subrange h a b) = true
outline_is_subrange _ = false

abbrev pub outline_is_set : Outline → Bool
outline_is_set outline.NoMembers = true
outline_is_set (outline.Members b) = true
outline_is_set (outline.Set p b) = true
outline_is_set _ = false

abbrev pub outline_is_constructed : Outline → Bool
outline_is_constructed outline.NoMembers = true
outline_is_constructed (outline.Members b) = true
outline_is_constructed _ = false

abbrev pub outline_is_pointer : Outline → Bool
outline_is_pointer outline.Nil = true
outline_is_pointer (outline.Pointer d) = true
outline_is_pointer _ = false

abbrev pub outline_is_array : Outline → Bool
outline_is_array (outline.Array p i e) = true
outline_is_array _ = false

abbrev pub outline_is_record : Outline → Bool
outline_is_record (outline.Record p) = true
outline_is_record _ = false

abbrev pub outline_is_packed : Outline → Bool
outline_is_packed (outline.Array p i e) = p
outline_is_packed (outline.Record p) = p
outline_is_packed _ = false

-- the host of a subrange, and else the type itself
abbrev pub outline_host : Operand → Outline → Operand
outline_host x (outline.Subrange h a b) = operand.Id h
outline_host x _ = x

-- the least and the largest ordinal
abbrev pub outline_low : Outline → ℤ
outline_low outline.Integer = pos 0 -ℤ maxint
outline_low (outline.Subrange h a b) = a
outline_low _ = pos 0

abbrev pub outline_high : Outline → ℤ
outline_high outline.Integer = maxint
outline_high outline.Boolean = pos 1
outline_high outline.Char = pos 127
outline_high (outline.Named n) = n
outline_high (outline.Subrange h a b) = b
outline_high _ = pos 0

-- the base of a set, and whether a set type is packed
abbrev pub outline_base : Outline → Option TypeId
outline_base (outline.Set p b) = Some b
outline_base (outline.Members b) = Some b
outline_base _ = None

abbrev pub outline_packing : Outline → Option Bool
outline_packing (outline.Set p b) = Some p
outline_packing _ = None

-- the index type and the type of the elements of an array
abbrev pub outline_index : Outline → Option TypeId
outline_index (outline.Array p i e) = Some i
outline_index _ = None

abbrev pub outline_element : Outline → Option TypeId
outline_element (outline.Array p i e) = Some e
outline_element _ = None

-- the length of a text
abbrev pub outline_text : Outline → ℕ
outline_text (outline.Text n) = n
outline_text _ = 0

-- the domain of a pointer type
abbrev pub outline_domain : Outline → Option DomainId
outline_domain (outline.Pointer d) = Some d
outline_domain _ = None
