use Rattle.position_codec.specs.Place.{no_place}
use Rattle.file_layout.specs.Items.{decl_items}
use Rattle.block_walk.proofs.GoingLemmas.{items_after}
use Rattle.block_walk.proofs.laws.what_was_written_is_skipped.Goals as goal

pub returns-clause-same : goal.returns-clause-same
returns-clause-same c = λ own offset basics out decl closed. (items_after own offset no_place (decl_items basics decl) out closed).is

pub returns-clause-closed : goal.returns-clause-closed
returns-clause-closed c = λ own offset basics out decl closed. (items_after own offset no_place (decl_items basics decl) out closed).closed

pub returns-clause-begins : goal.returns-clause-begins
returns-clause-begins c = λ own offset type placed. absurd cc
