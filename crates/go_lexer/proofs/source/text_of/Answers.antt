use Rattle.std.proofs.Common.{ap, ◌∙◌}
use Rattle.std.specs.List.{position_or_len}
use Rattle.go_lexer.specs.Source.{is_nul}
use Rattle.go_lexer.proofs.Sources.{nul_boundary}
use Rattle.go_lexer.proofs.source.text_of.Goals as goal

pub split_at-requires : goal.split_at-requires
split_at-requires c = nul_boundary c.valid_front-text.result.now c.nul_place.result (c.nul_place.ensures ∙ ap (position_or_len is_nul) c.as_bytes.ensures.value)
