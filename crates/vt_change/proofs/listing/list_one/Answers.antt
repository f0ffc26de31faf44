use Rattle.std.proofs.Common.{◌≡◌, ◌<◌, ◌+◌, Err, length, Some, IfSome, sym, subst, ap}
use Rattle.vt_syntax.specs.Programs.{whole}
use Rattle.vt_change.specs.declared.fault.ChangeFault.TheVariants.{TooBig}
use Rattle.vt_change.specs.Curing.{IsAnswerFor, IsSmall, AreFormed}
use Rattle.vt_change.specs.Listed.{IsFirstTooBig, AreListed}
use Rattle.vt_change.proofs.ListedLemmas.{listed-skip, listed-push, first_too_big, some-leaf}
use Rattle.vt_change.proofs.listing.list_one.Goals as goal

pub returns-in-Err-clause-too_big : goal.returns-in-Err-clause-too_big
returns-in-Err-clause-too_big c = λ number named K core leaves h plain are before.
    let equal : c.in-Err.fault ≡ TooBig number = cc in
    let (same, all) = c.in-Err.ensures.too_big number (ap Err equal) in
    let (one, is) = some-leaf leaves c.args.leaf (subst (λ list. c.args.leaf < length list) h.same c.requires.leaf) in
    subst (IsFirstTooBig K (whole core) leaves) (sym same) (first_too_big K (whole core) leaves c.args.leaf c.args.lines.now.items one is (all K core leaves one h plain are is) before)

pub returns-in-None-clause-listed : goal.returns-in-None-clause-listed
returns-in-None-clause-listed c = λ K core leaves h plain are before.
    let (one, is) = some-leaf leaves c.args.leaf (subst (λ list. c.args.leaf < length list) h.same c.requires.leaf) in
    listed-skip K (whole core) leaves c.args.leaf one is c.args.lines.now.items (subst (IsAnswerFor K (whole core) c.args.leaf one) c.in-None.is (c.in-Ok.ensures.answer K core leaves one h plain are is)) before

pub returns-in_ok-push_line-in-Some-clause-listed : goal.returns-in_ok-push_line-in-Some-clause-listed
returns-in_ok-push_line-in-Some-clause-listed c = λ K core leaves h plain are before.
    let (one, is) = some-leaf leaves c.args.leaf (subst (λ list. c.args.leaf < length list) h.same c.requires.leaf) in
    let answer : IsAnswerFor K (whole core) c.args.leaf one (Some c.in-Some.line) = subst (IsAnswerFor K (whole core) c.args.leaf one) c.in-Some.is (c.in-Ok.ensures.answer K core leaves one h plain are is) in
    let small : IsSmall c.in-Some.line = subst (λ found. IfSome found IsSmall) c.in-Some.is c.in-Ok.ensures.small in
    let formed : AreFormed c.in-Some.line = subst (λ found. IfSome found AreFormed) c.in-Some.is c.in-Ok.ensures.formed in
    subst (AreListed K (whole core) leaves (c.args.leaf + 1)) (sym c.in_ok-push_line-in-Some.ensures.ok)
    (listed-push K (whole core) leaves c.args.leaf one is c.args.lines.now.items c.in-Some.line answer.0 answer.1 small formed before)
