-- Frames: how a record is in a log.
use Rattle.std.specs.Prelude.{ℕ, ◌+◌, ◌*◌, nat_lt, if◌then◌else◌, List, ◌∷◌, ◌++◌, Option, Some, None, length, take, drop}
use Rattle.byteorder.specs.Endian.{big_bytes}
use Rattle.log_text.specs.declared.form.LogFormat.{LogFormat}
use Rattle.log_text.specs.declared.form.LogFormat.TheVariants.{First, Second}
use Rattle.log_text.specs.Forms.{size_bytes}

-- a frame: the kind, the length of the payload, the payload
unfoldable pub frame_text : LogFormat → ℕ → List ℕ → List ℕ
frame_text f kind payload = kind ∷ (big_bytes (size_bytes f) (length payload) ++ payload)

-- a frame as it is read, and the bytes after it
abbrev pub Cut : Type 0
Cut = ℕ × List ℕ × List ℕ

-- the payload of N bytes, and the bytes after it: none where fewer are left
abbrev pub cut_at : ℕ → ℕ → List ℕ → Option Cut
cut_at kind size rest = if nat_lt (length rest) size then None
    else Some (kind, take size rest, drop size rest)

-- what is before a payload: the kind, and the payload's length; and the bytes after
abbrev pub Head : Type 0
Head = ℕ × ℕ × List ℕ

-- the head of the first frame of these bytes: none where fewer bytes stand than a head has
abbrev pub head_of : LogFormat → List ℕ → Option Head
head_of First (kind ∷ high ∷ low ∷ rest) = Some (kind, high * 256 + low, rest)
head_of Second (kind ∷ a ∷ b ∷ c ∷ d ∷ rest) = Some (kind, ((a * 256 + b) * 256 + c) * 256 + d, rest)
head_of f bytes = None

-- the frame of a head
abbrev pub cut_behind : Option Head → Option Cut
cut_behind None = None
cut_behind (Some h) = cut_at h.0 h.1 h.2

-- the first frame of these bytes and what is after it: none where fewer bytes stand than its head and
-- length say
abbrev pub first_frame : LogFormat → List ℕ → Option Cut
first_frame f bytes = cut_behind (head_of f bytes)
