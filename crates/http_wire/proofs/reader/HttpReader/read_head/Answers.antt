use Rattle.std.specs.Io.KnownBytes.{Keeps, prepend_known}
use Rattle.std.proofs.Common.{ap, subst}
use Rattle.std.proofs.lemmas.Result.{IfErr-weaker, IfOk-weaker}
use Rattle.http_wire.specs.Reader.{Reader}
use Rattle.http_wire.proofs.TakeFacts.{hands-out, keeps-back, sized-out, stays-back}
use Rattle.http_wire.proofs.reader.HttpReader.read_head.Goals as goal

pub returns-in-Ok-clause-head : goal.returns-in-Ok-clause-head
returns-in-Ok-clause-head g c =
    let told = prepend_known c.args.self.now.pending (g.S.Source.left c.args.source.now) in
    let left = g.S.Source.left c.find_head.new.source in
    let kept : Keeps told (prepend_known c.find_head.new.buffer left) =
    subst (λ (r : Reader). Keeps (prepend_known r.pending (g.S.Source.left c.args.source.now)) (prepend_known c.find_head.new.buffer left)) c.self.view_is c.find_head.ensures.keeps in
    let same = ap (λ (r : Reader). r.at) c.self.view_is in
    IfOk-weaker c.hand_out.result _ _ (λ head out. hands-out told _ left _ c.in-Ok.found head c.hand_out.new.self c.args.self.now.at same kept out) c.hand_out.ensures.head

pub returns-in-Ok-clause-sized : goal.returns-in-Ok-clause-sized
returns-in-Ok-clause-sized g c = IfOk-weaker c.hand_out.result _ _ (λ head out. sized-out _ _ c.in-Ok.found head c.hand_out.new.self out) c.hand_out.ensures.head

pub returns-in-Ok-clause-fault : goal.returns-in-Ok-clause-fault
returns-in-Ok-clause-fault g c =
    let told = prepend_known c.args.self.now.pending (g.S.Source.left c.args.source.now) in
    let left = g.S.Source.left c.find_head.new.source in
    let kept : Keeps told (prepend_known c.find_head.new.buffer left) =
    subst (λ (r : Reader). Keeps (prepend_known r.pending (g.S.Source.left c.args.source.now)) (prepend_known c.find_head.new.buffer left)) c.self.view_is c.find_head.ensures.keeps in
    let same = ap (λ (r : Reader). r.at) c.self.view_is in
    IfErr-weaker c.hand_out.result _ _ (λ error back. keeps-back told _ left _ c.in-Ok.found error c.hand_out.new.self c.args.self.now.at _ _ same kept back) c.hand_out.ensures.fault

pub returns-in-Ok-clause-stays : goal.returns-in-Ok-clause-stays
returns-in-Ok-clause-stays g c =
    let told = prepend_known c.args.self.now.pending (g.S.Source.left c.args.source.now) in
    let left = g.S.Source.left c.find_head.new.source in
    let kept : Keeps told (prepend_known c.find_head.new.buffer left) =
    subst (λ (r : Reader). Keeps (prepend_known r.pending (g.S.Source.left c.args.source.now)) (prepend_known c.find_head.new.buffer left)) c.self.view_is c.find_head.ensures.keeps in
    let same = ap (λ (r : Reader). r.at) c.self.view_is in
    IfErr-weaker c.hand_out.result _ _ (λ error back. stays-back told _ left _ c.in-Ok.found error c.hand_out.new.self c.args.self.now.at same kept back) c.hand_out.ensures.fault
