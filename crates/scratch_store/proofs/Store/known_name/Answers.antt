-- `scratch_store::Store::known_name` meets its contract: a name that a memo knows stands, any other is sought and remembered.
use Rattle.std.proofs.Common.{refl}
use Rattle.scratch_store.proofs.MemoLaws.{name-adds-told, name-adds-kept}
use Rattle.scratch_store.proofs.DoesLaws.{adds-any}
use Rattle.scratch_store.proofs.Store.known_name.Goals as goal

pub returns-in-Some-clause-does : goal.returns-in-Some-clause-does
returns-in-Some-clause-does c = λ l text mark space is.
    let it = c.args.self.now in
    let s = c.args.name.sheet.now in
    adds-any refl
    (name-adds-told s it.state.layout it.scratch.now _ c.args.k c.args.t _ c.memos_at-ms.result c.recalled.result is c.memos_at-ms.ensures
    (rw (← c.words.ensures) c.recalled.ensures) c.in-Some.is) l

pub returns-then-t-lt4294967295-clause-does : goal.returns-then-t-lt4294967295-clause-does
returns-then-t-lt4294967295-clause-does c = λ l text mark space is.
    let it = c.args.self.now in
    adds-any refl
    (name-adds-kept c.args.k c.args.t _ is (c.push_name-at.ensures.does it.state.layout text mark space)
    c.memos_at-ms.result _ c.if-t-lt4294967295.true c.memos_at-ms.ensures c.remember.ensures) l

pub returns-else-t-lt4294967295-clause-does : goal.returns-else-t-lt4294967295-clause-does
returns-else-t-lt4294967295-clause-does c = λ l text mark space is. c.push_name-at.ensures.does l text mark space
