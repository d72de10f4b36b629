-- What is put of bytes that are written a piece at a time.
use Rattle.std.proofs.Common.{◌≡◌, ℕ, ◌+◌, List, [], ◌++◌, length, take, drop, refl, append_assoc, append-nil, arith, length-append}
use Rattle.std.proofs.lemmas.List.{take-append-drop, take-append-le}
use Rattle.std.proofs.Math.Seq.{take-append-add, take-append_seam}
use Rattle.fault_counts.specs.Told.{Told, Puts, PutsPrefix}
use Rattle.fault_counts.proofs.InRow.{puts_none, puts_more}
use Rattle.mesh_out.specs.Stream.{PutsBefore}

-- nothing was put
pub puts_nothing : (written : Told) (bytes : List ℕ) → PutsBefore written written bytes bytes
puts_nothing written bytes = record { put = []; parts = refl; puts = puts_none written }

-- some of the rest was put
pub puts_on :
    (old mid new : Told) (bytes rest : List ℕ) (n : ℕ) → PutsBefore old mid bytes rest →
    Puts mid new (take n rest) → PutsBefore old new bytes (drop n rest)
puts_on old mid new bytes rest n h i =
    let cut = take-append-drop n rest in
    let joined = append_assoc h.put (take n rest) (drop n rest) in
    let parts = h.parts in
    record {
      put = h.put ++ take n rest;
      parts = cc;
      puts = puts_more old mid new h.put (take n rest) h.puts i;
    }

-- more bytes were written behind the rest, and what stands before a new rest was put
pub puts_more_before :
    (old mid new : Told) (bytes rest more last : List ℕ) → PutsBefore old mid bytes rest →
    PutsBefore mid new (rest ++ more) last → PutsBefore old new (bytes ++ more) last
puts_more_before old mid new bytes rest more last h i =
    let first = h.parts in
    let second = i.parts in
    let left = append_assoc h.put rest more in
    let right = append_assoc h.put i.put last in
    record {
      put = h.put ++ i.put;
      parts = cc;
      puts = puts_more old mid new h.put i.put h.puts i.puts;
    }

-- all the rest was put
pub puts_all :
    (old mid new : Told) (bytes rest : List ℕ) → PutsBefore old mid bytes rest → Puts mid new rest →
    Puts old new bytes
puts_all old mid new bytes rest h i = rw h.parts (puts_more old mid new h.put rest h.puts i)

-- a prefix of the bytes and of what follows them was put
pub puts_prefix :
    (old new : Told) (bytes rest more : List ℕ) → PutsBefore old new bytes rest →
    PutsPrefix old new (bytes ++ more)
puts_prefix old new bytes rest more h =
    let parts = h.parts in
    let joined = append_assoc h.put rest more in
    let whole : bytes ++ more ≡ h.put ++ (rest ++ more) = cc in
    (length h.put, rw whole (omega (arith, length-append h.put (rest ++ more))), rw (whole, take-append_seam h.put (rest ++ more)) h.puts)

-- a prefix of the rest and of what follows it was put
pub puts_prefix_behind :
    (old mid new : Told) (bytes rest more : List ℕ) → PutsBefore old mid bytes rest →
    PutsPrefix mid new (rest ++ more) → PutsPrefix old new (bytes ++ more)
puts_prefix_behind old mid new bytes rest more h i =
    let parts = h.parts in
    let joined = append_assoc h.put rest more in
    let whole : bytes ++ more ≡ h.put ++ (rest ++ more) = cc in (
      length h.put + i.0,
      rw whole (omega (arith, length-append h.put (rest ++ more), i.1)),
      rw (whole, take-append-add h.put (rest ++ more) i.0) (puts_more old mid new h.put (take i.0 (rest ++ more)) h.puts i.2),
    )

-- a prefix of the bytes is a prefix of them with what follows
pub front_of_more :
    (old new : Told) (bytes more : List ℕ) → PutsPrefix old new bytes → PutsPrefix old new (bytes ++ more)
front_of_more old new bytes more i =
    let front : take i.0 (bytes ++ more) ≡ take i.0 bytes = take-append-le _ _ _ i.1 in
    (i.0, omega (arith, length-append bytes more, i.1), rw front i.2)

-- more of the rest was put
pub puts_later :
    (old mid new : Told) (bytes rest last : List ℕ) → PutsBefore old mid bytes rest →
    PutsBefore mid new rest last → PutsBefore old new bytes last
puts_later old mid new bytes rest last h i =
    rw append-nil at (puts_more_before old mid new bytes rest [] last h (rw append-nil i))
