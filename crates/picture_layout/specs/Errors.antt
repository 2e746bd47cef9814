-- The numbers of errors.
use Rattle.std.specs.Prelude.{ℕ}
use Rattle.picture_layout.specs.declared.error.PictureError.{PictureError}
use Rattle.picture_layout.specs.declared.error.PictureError.TheVariants.{Memory, TooLong}

-- the number of the error for which no picture is drawn
abbrev pub picture_error_number : PictureError → ℕ
picture_error_number Memory = 1
picture_error_number TooLong = 2
