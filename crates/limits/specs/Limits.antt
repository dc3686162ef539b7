-- The numbers of the format. The limits of events, threads and objects are the model's.
use Rattle.std.specs.Prelude.{ℕ, ◌+◌, Bool, ◌&&◌, List, replicate, leb}
use Rattle.model.specs.Good.{max_object}

-- an event's bytes: the size of the one edition that there is. The format's definitions are over the size
abbrev pub event_bytes : ℕ
event_bytes = 4

-- the trailer's bytes, and so the fewest of a file
abbrev pub trailer_bytes : ℕ
trailer_bytes = 8

-- the most bytes of a file
abbrev pub max_bytes : ℕ
max_bytes = 16384

-- a file may have n bytes
abbrev pub is_file_size : ℕ → Bool
is_file_size n = leb trailer_bytes n && leb n max_bytes

-- the bytes of the work area that questions 3 and 4 borrow
abbrev pub area_bytes : ℕ
area_bytes = 65536

-- a work area of n bytes is long enough
unfoldable pub is_area_size : ℕ → Bool
is_area_size n = leb area_bytes n

-- the mark: the file's last two bytes
abbrev pub mark_first : ℕ
mark_first = 0x50

abbrev pub mark_second : ℕ
mark_second = 0x4C

-- nobody holds any lock: the holders, and the depths
unfoldable pub no_locks : List ℕ
no_locks = replicate (max_object + 1) 0
