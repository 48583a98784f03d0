-- Document 01, "Variants: 0 Unwired, 1 Int, .., 7 Color, 8 Text".
use Rattle.std.specs.Prelude.{ℕ, ◌+◌}

abbrev pub text_variant : ℕ
text_variant = 8

-- text is the last
abbrev pub variant_count : ℕ
variant_count = text_variant + 1
