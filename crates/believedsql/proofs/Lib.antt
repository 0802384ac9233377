mod Checked
mod Spelled
mod SchemasSame
mod QuestionsSame
