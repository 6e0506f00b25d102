use Rattle.std.proofs.Common.{◌≡◌, ◌∙◌, ap, ap₂, true}
use Rattle.std.proofs.lemmas.Result.{IfOk-weaker}
use Rattle.clap.specs.Words.{app_of}
use Rattle.clap.specs.Simple.{App, app_of_fields, on_top, with_subcommand}
use Rattle.command_line.specs.Program.{bare_app}
use Rattle.command_line.proofs.program.program.Goals as goal

-- the settings, one after the other
bare : (c : goal.After-subcommand-8) → app_of c.disable_version_flag.result ≡ bare_app
bare c =
    let unnamed = ap app_of_fields c.no_binary_name.ensures ∙ ap (on_top (λ s. record s { no_binary_name = true })) c.new.ensures.app in
    let no_help = ap app_of_fields c.disable_help_flag.ensures ∙ ap (on_top (λ s. record s { disable_help_flag = true })) unnamed in
    let no_topics = ap app_of_fields c.disable_help_subcommand.ensures ∙ ap (on_top (λ s. record s { disable_help_subcommand = true })) no_help in
    ap app_of_fields c.disable_version_flag.ensures ∙ ap (on_top (λ s. record s { disable_version_flag = true })) no_topics

top_of : (a b : App) → a ≡ b → a.top ≡ b.top
top_of a b e = ap (λ (x : App). x.top) e

pub returns : goal.returns
returns c =
    let one = c.in_ok-subcommand.ensures.shape c.in_ok-job.ensures.local ∙ ap₂ with_subcommand (bare c) (top_of _ _ c.in_ok-job.ensures.shape) in
    let two = c.in_ok-subcommand-2.ensures.shape c.in_ok-job-2.ensures.local ∙ ap₂ with_subcommand one (top_of _ _ c.in_ok-job-2.ensures.shape) in
    let three = c.in_ok-subcommand-3.ensures.shape c.in_ok-two_operands.ensures.local ∙ ap₂ with_subcommand two (top_of _ _ c.in_ok-two_operands.ensures.shape) in
    let four = c.in_ok-subcommand-4.ensures.shape c.in_ok-one_operand.ensures.local ∙ ap₂ with_subcommand three (top_of _ _ c.in_ok-one_operand.ensures.shape) in
    let five = c.in_ok-subcommand-5.ensures.shape c.no_operand.ensures.local ∙ ap₂ with_subcommand four (top_of _ _ c.no_operand.ensures.shape) in
    let six = c.in_ok-subcommand-6.ensures.shape c.no_operand-2.ensures.local ∙ ap₂ with_subcommand five (top_of _ _ c.no_operand-2.ensures.shape) in
    let seven = c.in_ok-subcommand-7.ensures.shape c.in_ok-two_operands-2.ensures.local ∙ ap₂ with_subcommand six (top_of _ _ c.in_ok-two_operands-2.ensures.shape) in
    IfOk-weaker c.subcommand-8.result _ _
    (λ r adds. adds.shape c.in_ok-two_operands-3.ensures.local ∙ ap₂ with_subcommand seven (top_of _ _ c.in_ok-two_operands-3.ensures.shape))
    c.subcommand-8.ensures
