use Rattle.ply_laws.proofs.GrammarLaws.{blank_line, remark_line, element_on, property_on, format_on, other_on, unknown_on, header_end}
use Rattle.ply_laws.proofs.laws.header.ply_header_laws.Goals as goal

pub returns-clause-blank : goal.returns-clause-blank
returns-clause-blank c = blank_line

pub returns-clause-remark : goal.returns-clause-remark
returns-clause-remark c = remark_line

pub returns-clause-element : goal.returns-clause-element
returns-clause-element c = element_on

pub returns-clause-property : goal.returns-clause-property
returns-clause-property c = property_on

pub returns-clause-format : goal.returns-clause-format
returns-clause-format c = format_on

pub returns-clause-other : goal.returns-clause-other
returns-clause-other c = other_on

pub returns-clause-unknown : goal.returns-clause-unknown
returns-clause-unknown c = unknown_on

pub returns-clause-end : goal.returns-clause-end
returns-clause-end c = header_end
