use Rattle.std.proofs.Common.{◌≡◌, ℕ, ◌-◌, List, ◌++◌, length, take, drop, append_assoc, take-append-drop}
use Rattle.std.proofs.KnownBytes.{Appends-trans}
use Rattle.std.proofs.lemmas.List.{take_rest}
use Rattle.vt_io.proofs.host_sink.write_whole.Goals as goal

-- what was done, the prefix of what was left, and the rest
front_done : (all done left : List ℕ) (n : ℕ) → all ≡ done ++ left → all ≡ (done ++ take n left) ++ take (length left - n) (drop n left)
front_done all done left n e =
    rw (take_rest, append_assoc, take-append-drop) e

-- the write took a prefix of what was left
pub loop-left-preserved : goal.loop-left-preserved
loop-left-preserved g c =
    let (done, split, appended) = c.loop-left.invariant in
    let left = c.loop-left.left.now in
    let count = c.in-Ok.count in
    (done ++ take count left, front_done _ done left count split, Appends-trans _ _ _ _ _ appended c.in-Ok.ensures.bytes)
