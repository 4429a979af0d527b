use Rattle.std.proofs.Common.{inl, string_bytes, subst}
use Rattle.mr_files.specs.Holding.{Begins, ChangesOnly}
use Rattle.mr_files.proofs.Lists.{only_again}
use Rattle.mr_files.proofs.Written.{begun}
use Rattle.mr_files.proofs.writing.write_encoded_file.Goals as goal

pub returns-in-Err-OutOfMemory-clause-begins : goal.returns-in-Err-OutOfMemory-clause-begins
returns-in-Err-OutOfMemory-clause-begins g c = subst (λ n. Begins (g.S.Store.holds c.args.store.now) (g.S.Store.holds c.writer.new.self) n (g.C.Encode.text c.args.content.now)) c.as_str.ensures.value (λ b h. inl (c.writer.ensures.begins b h))

pub returns-in-Err-OutOfMemory-clause-others : goal.returns-in-Err-OutOfMemory-clause-others
returns-in-Err-OutOfMemory-clause-others g c = subst (ChangesOnly (g.S.Store.holds c.args.store.now) (g.S.Store.holds c.writer.new.self)) c.as_str.ensures.value c.writer.ensures.others

pub returns-in-Err-Device-clause-begins : goal.returns-in-Err-Device-clause-begins
returns-in-Err-Device-clause-begins g c = subst (λ n. Begins (g.S.Store.holds c.args.store.now) (g.S.Store.holds c.writer.new.self) n (g.C.Encode.text c.args.content.now)) c.as_str.ensures.value (λ b h. inl (c.writer.ensures.begins b h))

pub returns-in-Err-Device-clause-others : goal.returns-in-Err-Device-clause-others
returns-in-Err-Device-clause-others g c = subst (ChangesOnly (g.S.Store.holds c.args.store.now) (g.S.Store.holds c.writer.new.self)) c.as_str.ensures.value c.writer.ensures.others

pub returns-in_err-close-clause-begins : goal.returns-in_err-close-clause-begins
returns-in_err-close-clause-begins g c =
    let seen = g.S.Writer.CountedWrite.seen in
    let holds = g.S.Store.holds in
    begun c.write_encoded-answer.result (seen c.in-Ok.writer) (seen c.write_encoded-answer.new.writer) (g.C.Encode.text c.args.content.now) (holds c.args.store.now) (holds c.writer.new.self) (holds c.close.new.self) (string_bytes c.args.name) c.as_str.result.now c.as_str-2.result.now c.in-Ok.ensures.empty c.write_encoded-answer.ensures.whole c.write_encoded-answer.ensures.beginning c.as_str.ensures.value c.as_str-2.ensures.value c.in-Ok.ensures.begins c.close.ensures.begins

pub returns-in_err-close-clause-others : goal.returns-in_err-close-clause-others
returns-in_err-close-clause-others g c =
    let holds = g.S.Store.holds in
    only_again (holds c.args.store.now) (holds c.writer.new.self) (holds c.close.new.self) (string_bytes c.args.name) c.as_str.result.now c.as_str-2.result.now c.as_str.ensures.value c.as_str-2.ensures.value c.in-Ok.ensures.others c.close.ensures.others

pub returns-in-Ok-answer-clause-begins : goal.returns-in-Ok-answer-clause-begins
returns-in-Ok-answer-clause-begins g c =
    let seen = g.S.Writer.CountedWrite.seen in
    let holds = g.S.Store.holds in
    begun c.write_encoded-answer.result (seen c.in-Ok.writer) (seen c.write_encoded-answer.new.writer) (g.C.Encode.text c.args.content.now) (holds c.args.store.now) (holds c.writer.new.self) (holds c.close.new.self) (string_bytes c.args.name) c.as_str.result.now c.as_str-2.result.now c.in-Ok.ensures.empty c.write_encoded-answer.ensures.whole c.write_encoded-answer.ensures.beginning c.as_str.ensures.value c.as_str-2.ensures.value c.in-Ok.ensures.begins c.close.ensures.begins

pub returns-in-Ok-answer-clause-others : goal.returns-in-Ok-answer-clause-others
returns-in-Ok-answer-clause-others g c =
    let holds = g.S.Store.holds in
    only_again (holds c.args.store.now) (holds c.writer.new.self) (holds c.close.new.self) (string_bytes c.args.name) c.as_str.result.now c.as_str-2.result.now c.as_str.ensures.value c.as_str-2.ensures.value c.in-Ok.ensures.others c.close.ensures.others

pub returns-in-Err-clause-begins : goal.returns-in-Err-clause-begins
returns-in-Err-clause-begins g c =
    let seen = g.S.Writer.CountedWrite.seen in
    let holds = g.S.Store.holds in
    begun c.write_encoded-answer.result (seen c.in-Ok.writer) (seen c.write_encoded-answer.new.writer) (g.C.Encode.text c.args.content.now) (holds c.args.store.now) (holds c.writer.new.self) (holds c.close.new.self) (string_bytes c.args.name) c.as_str.result.now c.as_str-2.result.now c.in-Ok.ensures.empty c.write_encoded-answer.ensures.whole c.write_encoded-answer.ensures.beginning c.as_str.ensures.value c.as_str-2.ensures.value c.in-Ok.ensures.begins c.close.ensures.begins

pub returns-in-Err-clause-others : goal.returns-in-Err-clause-others
returns-in-Err-clause-others g c =
    let holds = g.S.Store.holds in
    only_again (holds c.args.store.now) (holds c.writer.new.self) (holds c.close.new.self) (string_bytes c.args.name) c.as_str.result.now c.as_str-2.result.now c.as_str.ensures.value c.as_str-2.ensures.value c.in-Ok.ensures.others c.close.ensures.others

pub returns-in-Err-2-clause-begins : goal.returns-in-Err-2-clause-begins
returns-in-Err-2-clause-begins g c =
    let seen = g.S.Writer.CountedWrite.seen in
    let holds = g.S.Store.holds in
    begun c.write_encoded-answer.result (seen c.in-Ok.writer) (seen c.write_encoded-answer.new.writer) (g.C.Encode.text c.args.content.now) (holds c.args.store.now) (holds c.writer.new.self) (holds c.close.new.self) (string_bytes c.args.name) c.as_str.result.now c.as_str-2.result.now c.in-Ok.ensures.empty c.write_encoded-answer.ensures.whole c.write_encoded-answer.ensures.beginning c.as_str.ensures.value c.as_str-2.ensures.value c.in-Ok.ensures.begins c.close.ensures.begins

pub returns-in-Err-2-clause-others : goal.returns-in-Err-2-clause-others
returns-in-Err-2-clause-others g c =
    let holds = g.S.Store.holds in
    only_again (holds c.args.store.now) (holds c.writer.new.self) (holds c.close.new.self) (string_bytes c.args.name) c.as_str.result.now c.as_str-2.result.now c.as_str.ensures.value c.as_str-2.ensures.value c.in-Ok.ensures.others c.close.ensures.others
