use Rattle.std.proofs.Common.{◌≡◌, [], ap, ◌∙◌, append-nil}
use Rattle.json_recogniser.specs.Machines.{comes}
use Rattle.json_recogniser.proofs.JsonTestLemmas.{told}
use Rattle.json_recogniser.proofs.json_test.JsonTest.finish.Goals as goal

pub returns : goal.returns
returns c = λ bytes h.
    let test = c.args.self.now in
    let ending = c.ending.result.items in
    let same : c.is_whole.result ≡ comes test.machine ending =
    c.is_whole.ensures ∙ c.take_all.ensures [] ∙ ap (comes c.copy-machine.result) (append-nil c.as_slice.result.now)
    ∙ ap (comes c.copy-machine.result) c.as_slice.ensures.value ∙ c.copy-machine.ensures ending in
    told test bytes ending c.is_whole.result same (λ given reads. c.ending.ensures bytes given reads) h
