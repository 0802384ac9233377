use Rattle.std.proofs.Common.{refl, sym, ◌∙◌}
use Rattle.sqltokens.specs.Lexing.{keyword_of}
use Rattle.sqltokens.proofs.Letters.{by_letter}
use Rattle.sqltokens.proofs.lexing.keywords_with.Goals as goal

pub returns-in-97 : goal.returns-in-97
returns-in-97 c rest = by_letter 97 c.args.first rest (sym c.to_ascii_lowercase.ensures.value ∙ c.in-97.is)

pub returns-in-98 : goal.returns-in-98
returns-in-98 c rest = by_letter 98 c.args.first rest (sym c.to_ascii_lowercase.ensures.value ∙ c.in-98.is)

pub returns-in-99 : goal.returns-in-99
returns-in-99 c rest = by_letter 99 c.args.first rest (sym c.to_ascii_lowercase.ensures.value ∙ c.in-99.is)

pub returns-in-100 : goal.returns-in-100
returns-in-100 c rest = by_letter 100 c.args.first rest (sym c.to_ascii_lowercase.ensures.value ∙ c.in-100.is)

pub returns-in-101 : goal.returns-in-101
returns-in-101 c rest = by_letter 101 c.args.first rest (sym c.to_ascii_lowercase.ensures.value ∙ c.in-101.is)

pub returns-in-102 : goal.returns-in-102
returns-in-102 c rest = by_letter 102 c.args.first rest (sym c.to_ascii_lowercase.ensures.value ∙ c.in-102.is)

pub returns-in-103 : goal.returns-in-103
returns-in-103 c rest = by_letter 103 c.args.first rest (sym c.to_ascii_lowercase.ensures.value ∙ c.in-103.is)

pub returns-in-104 : goal.returns-in-104
returns-in-104 c rest = by_letter 104 c.args.first rest (sym c.to_ascii_lowercase.ensures.value ∙ c.in-104.is)

pub returns-in-105 : goal.returns-in-105
returns-in-105 c rest = by_letter 105 c.args.first rest (sym c.to_ascii_lowercase.ensures.value ∙ c.in-105.is)

pub returns-in-106 : goal.returns-in-106
returns-in-106 c rest = by_letter 106 c.args.first rest (sym c.to_ascii_lowercase.ensures.value ∙ c.in-106.is)

pub returns-in-107 : goal.returns-in-107
returns-in-107 c rest = by_letter 107 c.args.first rest (sym c.to_ascii_lowercase.ensures.value ∙ c.in-107.is)

pub returns-in-108 : goal.returns-in-108
returns-in-108 c rest = by_letter 108 c.args.first rest (sym c.to_ascii_lowercase.ensures.value ∙ c.in-108.is)

pub returns-in-109 : goal.returns-in-109
returns-in-109 c rest = by_letter 109 c.args.first rest (sym c.to_ascii_lowercase.ensures.value ∙ c.in-109.is)

pub returns-in-110 : goal.returns-in-110
returns-in-110 c rest = by_letter 110 c.args.first rest (sym c.to_ascii_lowercase.ensures.value ∙ c.in-110.is)

pub returns-in-111 : goal.returns-in-111
returns-in-111 c rest = by_letter 111 c.args.first rest (sym c.to_ascii_lowercase.ensures.value ∙ c.in-111.is)

pub returns-in-112 : goal.returns-in-112
returns-in-112 c rest = by_letter 112 c.args.first rest (sym c.to_ascii_lowercase.ensures.value ∙ c.in-112.is)

pub returns-in-113 : goal.returns-in-113
returns-in-113 c rest = by_letter 113 c.args.first rest (sym c.to_ascii_lowercase.ensures.value ∙ c.in-113.is)

pub returns-in-114 : goal.returns-in-114
returns-in-114 c rest = by_letter 114 c.args.first rest (sym c.to_ascii_lowercase.ensures.value ∙ c.in-114.is)

pub returns-in-115 : goal.returns-in-115
returns-in-115 c rest = by_letter 115 c.args.first rest (sym c.to_ascii_lowercase.ensures.value ∙ c.in-115.is)

pub returns-in-116 : goal.returns-in-116
returns-in-116 c rest = by_letter 116 c.args.first rest (sym c.to_ascii_lowercase.ensures.value ∙ c.in-116.is)

pub returns-in-117 : goal.returns-in-117
returns-in-117 c rest = by_letter 117 c.args.first rest (sym c.to_ascii_lowercase.ensures.value ∙ c.in-117.is)

pub returns-in-118 : goal.returns-in-118
returns-in-118 c rest = by_letter 118 c.args.first rest (sym c.to_ascii_lowercase.ensures.value ∙ c.in-118.is)

pub returns-in-119 : goal.returns-in-119
returns-in-119 c rest = by_letter 119 c.args.first rest (sym c.to_ascii_lowercase.ensures.value ∙ c.in-119.is)

pub returns-in-120 : goal.returns-in-120
returns-in-120 c rest = by_letter 120 c.args.first rest (sym c.to_ascii_lowercase.ensures.value ∙ c.in-120.is)

pub returns-in-121 : goal.returns-in-121
returns-in-121 c rest = by_letter 121 c.args.first rest (sym c.to_ascii_lowercase.ensures.value ∙ c.in-121.is)

pub returns-in-122 : goal.returns-in-122
returns-in-122 c rest = by_letter 122 c.args.first rest (sym c.to_ascii_lowercase.ensures.value ∙ c.in-122.is)

pub returns-in_default : goal.returns-in_default
unfolding keyword_of
returns-in_default c rest = refl
